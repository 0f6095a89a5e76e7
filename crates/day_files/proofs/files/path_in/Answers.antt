use Rattle.day_files.proofs.files.path_in.Goals as goal

pub returns : goal.returns
returns c = c.in_ok-format.ensures.ok
