-- The rule of stage.
--   in_position  the words stay within a position
--   kept_block   the block whose words a shorter write keeps: the row's new block, or the object's own; none for a
--                cleared row
--   kept_words   the words that a write starts from; a full write needs none
--   own_target   the block that is overwritten: the row's new block, or in place the own block of a normal file
--   target       that block, or a free one
--   Stages       one store at a target, after which the row holds it
--   prepared     the target of a write, and the bytes that go there
--   stage_rule
use Rattle.std.specs.Prelude.{ℕ, ◌+◌, Bool, cond, not, ◌&&◌, List, [], ◌∷◌, length, replicate, Some, None, Ok, Err, Option, Result, ◌==◌, nat_le, nat_lt, slice_index, slice_set}
use Rattle.allocation.specs.Choosing.{free_block, chosen}
use Rattle.device.specs.Blocks.{Block}
use Rattle.device.specs.Plans.{write}
use Rattle.device.specs.declared.device.Device.{Ghosts}
use Rattle.journal.specs.Carried.{Ready}
use Rattle.journal.specs.Rows.{new_address, row_of}
use Rattle.journal.specs.declared.row.Row.{Row}
use Rattle.journal.specs.declared.row.Row.TheVariants.{Untouched, New, Cleared}
use Rattle.lookup.specs.Finding.{held}
use Rattle.map.specs.Addresses.{cylinder_of}
use Rattle.map.specs.declared.kind.Kind.{Kind}
use Rattle.map.specs.declared.kind.Kind.TheVariants as kinds
use Rattle.object.specs.Words.{bytes_of, replaced}
use Rattle.object.specs.declared.root.Root.{Root as RootOf}
use Rattle.store.specs.Admission.{admitted}
use Rattle.store.specs.Decisions.{Decision, Goes, bound, decide, unless}
use Rattle.store.specs.Model.{Model, seen}
use Rattle.store.specs.declared.phase.Asked.TheVariants as asked
use Rattle.store.specs.declared.refusals.Refusal.{Refusal}
use Rattle.store.specs.declared.refusals.Refusal.TheVariants as refusal
use Rattle.store.specs.declared.staging.Target.{Target}
use Rattle.store.specs.declared.staging.Target.TheVariants as targets
use Rattle.store.specs.declared.stores.Store.{Store}
use Rattle.store.specs.declared.tickets.OpenTicket.{OpenTicket}
use Rattle.volume.specs.Volume.{cylinders_of, content, some_address}

-- position, first word and how many: some, and none past the last
abbrev pub in_position : ℕ → ℕ → ℕ → Bool
in_position position first n = nat_lt position 64 && nat_le 1 n && nat_le (first + n) 256

abbrev pub kept_block : Row → ℕ → ℕ
kept_block row old = new_address row old

abbrev pub or_unreadable : ℕ → Option (List ℕ) → Result (List ℕ) Refusal
or_unreadable a None = Err (refusal.Unreadable a)
or_unreadable a (Some words) = Ok words

unfoldable pub no_words : List ℕ
no_words = replicate 256 0

abbrev pub kept_words : List Block → Bool → ℕ → Result (List ℕ) Refusal
kept_words blocks full a = cond full (Ok no_words) (or_unreadable a (content blocks (some_address a)))

abbrev pub own_target : Kind → Row → ℕ → Option ℕ
own_target kind (New b) old = Some b
own_target kind Cleared old = None
own_target kinds.Normal Untouched old = some_address old
own_target kinds.Special Untouched old = None
own_target kinds.Index Untouched old = None

-- a free block, looked for from the cylinder of the block that is replaced, or of the root
abbrev pub start_of : RootOf → ℕ → ℕ
start_of object old = cylinder_of (cond (old == 0) object.id.root old)

abbrev pub or_full : Option ℕ → Result Target Refusal
or_full None = Err refusal.Full
or_full (Some b) = Ok (targets.Fresh b)

abbrev pub or_fresh : Option ℕ → Option ℕ → Result Target Refusal
or_fresh (Some b) free = Ok (targets.Own b)
or_fresh None free = or_full free

abbrev pub target : List Block → List Row → RootOf → ℕ → Result Target Refusal
target blocks rows object p =
    or_fresh (own_target object.kind (row_of rows p) (slice_index object.blocks p))
    (chosen (free_block rows) (start_of object (slice_index object.blocks p)) blocks)

-- the block of a target
abbrev pub block_of : Target → ℕ
block_of (targets.Own b) = b
block_of (targets.Fresh b) = b

-- the row holds the block from now on, if it is a fresh one
abbrev pub rows_with : List Row → ℕ → Target → List Row
rows_with rows p (targets.Own b) = rows
rows_with rows p (targets.Fresh b) = slice_set rows p (New b)

-- the target of a write, and the bytes that go there
abbrev pub prepared : List Block → List Row → RootOf → ℕ → ℕ → List ℕ → Result (Target × List ℕ) Refusal
prepared blocks rows object p first words =
    bound (kept_words blocks (length words == 256) (kept_block (row_of rows p) (slice_index object.blocks p))) (λ kept.
    bound (target blocks rows object p) (λ t. Ok (t, bytes_of (replaced kept first words))))

abbrev pub stage_rule : OpenTicket → ℕ → ℕ → List ℕ → Model → Decision (Unit {0})
stage_rule ticket p first words m =
    decide (admitted m.phase (asked.Open ticket.id)) (λ _.
    unless (not (in_position p first (length words))) refusal.Range
    (decide (prepared m.blocks m.rows (held m.blocks ticket.id) p first words) (λ found.
    Decision.go (write (block_of found.0) found.1 ∷ []) tt m.phase (rows_with m.rows p found.0))))

-- one store at a target, after which the row holds it
abbrev pub Stages : {D : Type 0} → (meaning : Ghosts D) → ℕ → Target → List ℕ → Store D meaning → Result (Unit {0}) Refusal → Store D meaning → Type 0
Stages meaning p t bytes store r store' =
    Ready (meaning.blocks store.device) (meaning.lit store.device) (cylinders_of (meaning.blocks store.device)) →
    Goes (seen meaning store) (write (block_of t) bytes ∷ []) tt (seen meaning store).phase (rows_with (seen meaning store).rows p t) r (seen meaning store')
