use Rattle.lookup.proofs.StagedWords.{staged_return}
use Rattle.lookup.proofs.stage.staged_words_return.Goals as goal

pub returns : goal.returns
returns c = staged_return c.words_return.ensures
