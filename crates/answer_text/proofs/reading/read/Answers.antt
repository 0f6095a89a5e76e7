use Rattle.answer_text.proofs.Exact.{exactly}
use Rattle.answer_text.proofs.Ruling.{accepted, found, refused_for}
use Rattle.answer_text.proofs.reading.read.Goals as goal

pub returns-clause-found : goal.returns-clause-found
returns-clause-found c = found c.args.bytes.now c.read_from_title.result c.read_from_title.ensures

pub returns-clause-accepted : goal.returns-clause-accepted
returns-clause-accepted c = accepted c.args.bytes.now c.read_from_title.result c.read_from_title.ensures

pub returns-clause-refused : goal.returns-clause-refused
returns-clause-refused c = refused_for c.args.bytes.now c.read_from_title.result c.read_from_title.ensures

pub returns-clause-exact : goal.returns-clause-exact
returns-clause-exact c = exactly c.args.bytes.now c.read_from_title.result c.read_from_title.ensures
