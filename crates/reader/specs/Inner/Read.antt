-- What reading the header gives.
use Rattle.model.specs.Sheet.{Header as Numbers}
use Rattle.reader.specs.declared.Header.{Header}

-- the header of the definitions
abbrev pub stated : Header → Numbers
stated h =
    record {
      variables = h.variables;
      values = h.values;
      constraints = h.constraints;
      symmetries = h.symmetries;
      first = h.first;
      second = h.second;
      third = h.third;
      size = h.size;
    }
