use Rattle.volume.proofs.Meeting.{meeting_law}
use Rattle.volume.proofs.laws.volume_at_rest_shows_what_counts.Goals as goal

pub returns : goal.returns
returns c = meeting_law
