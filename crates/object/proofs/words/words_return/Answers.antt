use Rattle.object.proofs.WordLaws.{words_return}
use Rattle.object.proofs.words.words_return.Goals as goal

pub returns : goal.returns
returns c = words_return
