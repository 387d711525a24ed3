-- The save procedure in use today, as lists of stores, and what its end is called.
-- The job stands in blocks 0 to 7, the spare copy in 8 to 15, the marker in 16.
--   copies         a job's parts, stored one after another; copies_marked: and then the marker
--   save_plan      the new job to the spare blocks, the marker, the job over the old one, no marker
--   marker_of      whether a block says that the marker is set, if it can be read
--   loaded         the parts that stand from an address on, if all can be read
--   recovery_plan  if the marker is there, the spare copy over the job once more, and no marker
--   Interrupted    a save, whole or cut, and then recoveries that were all cut
--   History        the same, and at last a whole recovery
--   Judged         what a verdict says of the blocks
--   Replays        what a whole replay does
use Rattle.std.specs.Prelude.{◌≡◌, ℕ, ◌+◌, ◌<◌, ◌≤◌, Bool, true, false, not, List, [], ◌∷◌, ◌++◌, length, replicate, Some, None, MatchBool, Option, ◌==◌, ◌≢◌, slice_index}
use Rattle.device.specs.Blocks.{Block, block_at}
use Rattle.device.specs.Gathers.{gathered}
use Rattle.device.specs.Plans.{Write, write, wrote, CutIn}
use Rattle.saving.specs.declared.outcome.Outcome.{Outcome}
use Rattle.saving.specs.declared.outcome.Outcome.TheVariants as outcome
use Rattle.saving.specs.declared.outcome.Report.{Report}

abbrev pub copies : List (List ℕ) → ℕ → List Write
copies [] from = []
copies (part ∷ parts) from = write from part ∷ copies parts (from + 1)

-- the marker block: 1 where the marker is set, 0 once it is taken away, and zeros
unfoldable pub marker_block : ℕ → List ℕ
marker_block mark = mark ∷ replicate 511 0

abbrev pub copies_marked : List (List ℕ) → ℕ → ℕ → List Write
copies_marked parts from mark = copies parts from ++ write 16 (marker_block mark) ∷ []

abbrev pub save_plan : List (List ℕ) → List Write
save_plan parts = copies_marked parts 8 1 ++ copies_marked parts 0 0

abbrev pub marker_of : Block → Option Bool
marker_of Block.unreadable = None
marker_of (Block.readable bytes) = Some (not (slice_index bytes 0 == 0))

abbrev pub bytes_in : Block → Option (List ℕ)
bytes_in Block.unreadable = None
bytes_in (Block.readable bytes) = Some bytes

abbrev pub loaded : List Block → ℕ → ℕ → Option (List (List ℕ))
loaded blocks from n = gathered (λ b. bytes_in (block_at blocks b)) from n

abbrev pub recovers : Option Bool → Option (List (List ℕ)) → List Write
recovers None spare = []
recovers (Some false) spare = []
recovers (Some true) None = []
recovers (Some true) (Some parts) = copies_marked parts 0 0

abbrev pub recovery_plan : List Block → List Write
recovery_plan blocks = recovers (marker_of (block_at blocks 16)) (loaded blocks 8 8)

-- so many recoveries that power cut short, one after another
pub data CutShort : ℕ → List Block → List Block → Type 0 where
  none : {blocks : List Block} → CutShort 0 blocks blocks
  more : {n : ℕ} {blocks mid after : List Block} → CutShort n blocks mid → CutIn mid (recovery_plan mid) after → CutShort (n + 1) blocks after

-- a save of these parts, whole or cut, and then so many recoveries that were all cut
pub record Interrupted (blocks : List Block) (parts : List (List ℕ)) (whole : Bool) (cuts : ℕ) (after : List Block) : Type 0 where
  pub saved : List Block
  pub first : MatchBool whole (saved ≡ wrote blocks (save_plan parts)) (CutIn blocks (save_plan parts) saved)
  pub again : CutShort cuts saved after

-- and at last a whole recovery
pub record History (blocks : List Block) (parts : List (List ℕ)) (whole : Bool) (cuts : ℕ) (after : List Block) : Type 0 where
  pub last : List Block
  pub before : Interrupted blocks parts whole cuts last
  pub finished : after ≡ wrote last (recovery_plan last)

-- what a verdict on the blocks says, given the old job's parts and the new one's
abbrev pub Judged : List (List ℕ) → List (List ℕ) → List Block → Outcome → Type 0
Judged old new blocks outcome.MarkerUnreadable = block_at blocks 16 ≡ Block.unreadable
Judged old new blocks outcome.PartUnreadable = (block_at blocks 16 ≢ Block.unreadable) × (loaded blocks 0 8 ≡ None)
Judged old new blocks outcome.Old = (block_at blocks 16 ≢ Block.unreadable) × (loaded blocks 0 8 ≡ Some old)
Judged old new blocks outcome.New =
    (block_at blocks 16 ≢ Block.unreadable) × (loaded blocks 0 8 ≡ Some new) × (new ≢ old)
Judged old new blocks outcome.Mixed =
    (block_at blocks 16 ≢ Block.unreadable)
    × ((parts : List (List ℕ)) × (loaded blocks 0 8 ≡ Some parts) × (parts ≢ old) × (parts ≢ new))
Judged old new blocks outcome.Unfinished = ⊥
Judged old new blocks outcome.TooSmall = ⊥

-- a replay that ran to its end, and the verdict on what it left
pub record Ended (blocks : List Block) (old new : List (List ℕ)) (whole : Bool) (cuts : ℕ) (r : Outcome) (after : List Block) : Type 0 where
  pub history : History blocks new whole cuts after
  pub verdict : Judged old new after r

-- a replay is refused on a small drive, given up while power fails each time, or ends
abbrev pub Replayed : List Block → List (List ℕ) → List (List ℕ) → Bool → ℕ → Outcome → List Block → Type 0
Replayed blocks old new whole cuts outcome.TooSmall after = (length blocks < 17) × (after ≡ blocks)
Replayed blocks old new whole cuts outcome.Unfinished after = (17 ≤ length blocks) × Interrupted blocks new whole cuts after
Replayed blocks old new whole cuts outcome.Old after = Ended blocks old new whole cuts outcome.Old after
Replayed blocks old new whole cuts outcome.New after = Ended blocks old new whole cuts outcome.New after
Replayed blocks old new whole cuts outcome.Mixed after = Ended blocks old new whole cuts outcome.Mixed after
Replayed blocks old new whole cuts outcome.PartUnreadable after = Ended blocks old new whole cuts outcome.PartUnreadable after
Replayed blocks old new whole cuts outcome.MarkerUnreadable after = Ended blocks old new whole cuts outcome.MarkerUnreadable after

abbrev pub Replays : List Block → List (List ℕ) → List (List ℕ) → Report → List Block → Type 0
Replays blocks old new r after = Replayed blocks old new r.saved r.cuts r.outcome after
