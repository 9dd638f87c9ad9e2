-- `put_digits`: the digits before the last are those of the tenth part. The measure is the number. Assumes nothing.
use Rattle.std.proofs.Common.{arith}
use Rattle.report.proofs.Digits.{length_one, length_more, put_one, put_more}
use Rattle.report.proofs.+put_digits.Goals as goal

pub put_byte-requires : goal.put_byte-requires
put_byte-requires t c = omega (arith, length_one c.args.x c.if-x-lt10.true)

pub returns-then-x-lt10 : goal.returns-then-x-lt10
returns-then-x-lt10 t c = put_one c.if-x-lt10.true c.put_byte.ensures

pub put_digits-next-requires : goal.put_digits-next-requires
put_digits-next-requires t c = (omega arith, omega (arith, length_more c.args.x (omega arith) (omega arith)))

pub put_byte-requires-2 : goal.put_byte-requires-2
put_byte-requires-2 t c = omega (arith, length_more c.args.x (omega arith) (omega arith), c.put_digits-next.ensures.ends, c.put_digits-next.auto.out, c.requires)

pub returns : goal.returns
returns t c = put_more c.if-x-lt10.false c.ranges.x.fits c.requires c.put_digits-next.ensures c.put_byte-2.ensures
