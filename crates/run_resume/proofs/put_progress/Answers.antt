-- `run_resume::put_progress` meets its contract: proofs/Going. Assumes nothing.
use Rattle.run_resume.proofs.{Going.put_so}
use Rattle.run_resume.proofs.put_progress.Goals as goal

pub returns : goal.returns
returns c =
    put_so c.args.plans c.args.last.now c.args.work.now _ c.requires.0 c.requires.1 c.put_path.ensures
