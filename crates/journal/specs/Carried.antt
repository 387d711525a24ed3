-- A list of stores, carried out on a lit device or cut.
--   Ready     a lit device of whole cylinders, at least one and at most 64
--   Whole     every store of the list was done, and so many were counted
--   Went      power failed inside the list
--   Carried   one or the other, by the answer
--   Carries   the same of a device and its meaning, for the list that a plan makes of its blocks
--   Completes the same where the stores are not counted
--   Tells     a reading of a device: the answer is what a function says of its blocks
--   CarriesAll, CompletesAll, TellsAll   the same of all the cylinders that the device has
--   bytes_in  the bytes of a block that can be read
--   planned   the lists of the cylinders below n, one after another
use Rattle.std.specs.Prelude.{◌≡◌, ℕ, zero, suc, ◌*◌, ◌≤◌, Bool, true, false, List, [], ◌++◌, length, Some, None, Ok, Err, Option, Result}
use Rattle.device.specs.Blocks.{Block}
use Rattle.device.specs.Plans.{Write, wrote, CutIn, Runs}
use Rattle.device.specs.declared.device.Device.{Ghosts}
use Rattle.volume.specs.Volume.{cylinders_of}

pub record Ready (blocks : List Block) (lit : Bool) (cylinders : ℕ) : Type 0 where
  pub on : lit ≡ true
  pub long : length blocks ≡ 32 * cylinders
  pub some : 1 ≤ cylinders
  pub few : cylinders ≤ 64

pub record Whole (blocks : List Block) (plan : List Write) (count : ℕ) (blocks' : List Block) (lit' : Bool) : Type 0 where
  pub counted : count ≡ length plan
  pub after : blocks' ≡ wrote blocks plan
  pub on : lit' ≡ true

pub record Went (blocks : List Block) (plan : List Write) (blocks' : List Block) (lit' : Bool) : Type 0 where
  pub cut : CutIn blocks plan blocks'
  pub off : lit' ≡ false

-- the blocks before, the list, the answer, the blocks after and whether the device is lit
abbrev pub Carried : {E : Type 0} → List Block → List Write → Result ℕ E → List Block → Bool → Type 0
Carried blocks plan (Ok count) blocks' lit' = Whole blocks plan count blocks' lit'
Carried blocks plan (Err e) blocks' lit' = Went blocks plan blocks' lit'

abbrev pub bytes_in : Block → Option (List ℕ)
bytes_in Block.unreadable = None
bytes_in (Block.readable bytes) = Some bytes

unfoldable pub planned : (ℕ → List Write) → ℕ → List Write
planned f zero = []
planned f (suc c) = planned f c ++ f c

-- on a ready device, the list that a plan makes of its blocks is carried out or cut
abbrev pub Carries : {D E : Type 0} → Ghosts D → D → ℕ → (List Block → List Write) → Result ℕ E → D → Type 0
Carries meaning device cylinders plan r device' =
    Ready (meaning.blocks device) (meaning.lit device) cylinders →
    Carried (meaning.blocks device) (plan (meaning.blocks device)) r (meaning.blocks device') (meaning.lit device')

-- on a ready device, the answer is what f says of its blocks
abbrev pub Tells : {D X E : Type 0} → Ghosts D → D → ℕ → (List Block → X) → Result X E → Type 0
Tells meaning device cylinders f r = Ready (meaning.blocks device) (meaning.lit device) cylinders → r ≡ Ok (f (meaning.blocks device))

-- the same where the stores are not counted
abbrev pub Completes : {D A E : Type 0} → Ghosts D → D → ℕ → (List Block → List Write) → Result A E → D → Type 0
Completes meaning device cylinders plan r device' =
    Ready (meaning.blocks device) (meaning.lit device) cylinders →
    Runs (meaning.blocks device) true (plan (meaning.blocks device)) r (meaning.blocks device') (meaning.lit device')

abbrev pub CarriesAll : {D E : Type 0} → Ghosts D → D → (List Block → List Write) → Result ℕ E → D → Type 0
CarriesAll meaning device plan r device' = Carries meaning device (cylinders_of (meaning.blocks device)) plan r device'

abbrev pub CompletesAll : {D A E : Type 0} → Ghosts D → D → (List Block → List Write) → Result A E → D → Type 0
CompletesAll meaning device plan r device' = Completes meaning device (cylinders_of (meaning.blocks device)) plan r device'

abbrev pub TellsAll : {D X E : Type 0} → Ghosts D → D → (List Block → X) → Result X E → Type 0
TellsAll meaning device f r = Tells meaning device (cylinders_of (meaning.blocks device)) f r
