-- The data of a copy from the client, as messages (PostgreSQL manual, "Message Flow", "COPY Operations").
use Rattle.std.specs.Prelude.{◌≡◌, ℕ, zero, suc, min, true, false, List, [], ◌∷◌, length, take, drop, map, flat_map, Result, Ok, Err}
use Rattle.pg_wire.specs.declared.error.Error.{Error}
use Rattle.pg_wire.specs.declared.error.Error.TheVariants as errors
use Rattle.pg_wire.specs.Frontend.{CopyData}
use Rattle.pg_wire.specs.Server.{IsPrefixOf}
use Rattle.pg_conn.specs.Connections.{ConnOf, copied, with_messages}
use Rattle.pg_script.specs.declared.step.Copying.{Copying}
use Rattle.pg_script.specs.declared.step.Fed.{Fed}
use Rattle.pg_script.specs.declared.step.CopyEnd.{CopyEnd}
use Rattle.pg_script.specs.declared.step.CopyEnd.TheVariants as copy_ends
use Rattle.pg_script.specs.declared.step.Parting.{Parting}
use Rattle.pg_script.specs.declared.step.Parting.TheVariants as partings

-- bytes as parts of so many at most, of which none is empty; so many parts are enough
abbrev pub cut_in : ℕ → ℕ → List ℕ → List (List ℕ)
cut_in most zero bytes = []
cut_in most (suc n) [] = []
cut_in most (suc n) (b ∷ bs) = take (min (length (b ∷ bs)) most) (b ∷ bs) ∷ cut_in most n (drop (min (length (b ∷ bs)) most) (b ∷ bs))

-- a message of data carries 1073741818 bytes at most
abbrev pub cut : List ℕ → List (List ℕ)
cut bytes = cut_in 1073741818 (length bytes) bytes

-- these parts were queued, each as one message
abbrev pub fed_with : {A : Type 0} → List (List ℕ) → ConnOf A → ConnOf A
fed_with parts c = with_messages (map CopyData parts) c

-- all of them, or the first ones, where there was no memory for more
abbrev pub Feeds : {A : Type 0} → ConnOf A → ConnOf A → List (List ℕ) → Result (Unit {0}) Error → Type 0
Feeds a b parts (Ok u) = b ≡ fed_with parts a
Feeds a b parts (Err e) = (e ≡ errors.OutOfMemory) × ((front : List (List ℕ)) × IsPrefixOf front parts × (b ≡ fed_with front a))

-- and their end behind them
abbrev pub FeedsWhole : {A : Type 0} → ConnOf A → ConnOf A → List (List ℕ) → Result (Unit {0}) Error → Type 0
FeedsWhole a b parts (Ok u) = b ≡ copied (fed_with parts a)
FeedsWhole a b parts (Err e) = (e ≡ errors.OutOfMemory) × ((front : List (List ℕ)) × IsPrefixOf front parts × (b ≡ fed_with front a))

-- all parts of the data that a script gives
abbrev pub parts_of : Copying → List (List ℕ)
parts_of copying = flat_map cut copying.pieces

-- all data was queued, and this was to become of the copy
abbrev pub IsFedFor : CopyEnd → Copying → Fed → Type 0
IsFedFor end copying fed = (fed.pieces ≡ parts_of copying) × (copying.end ≡ end)

-- how a copy was given up is what was to become of it
abbrev pub PartsAs : Parting → Copying → Fed → Type 0
PartsAs partings.None copying fed = Unit {0}
PartsAs partings.Left copying fed = (fed.is_ended ≡ false) × IsFedFor copy_ends.Leave copying fed
PartsAs partings.Unsaid copying fed = (fed.is_ended ≡ false) × ((message : List ℕ) × IsFedFor (copy_ends.Abort message) copying fed)
PartsAs (partings.Failed message) copying fed = (fed.is_ended ≡ false) × IsFedFor (copy_ends.Abort message) copying fed

-- a copy came so: it was fed the first parts of the data, and all of them where it was fed to its end or given up
pub record CameOf (copying : Copying) (fed : Fed) : Type 0 where
  pub sql : fed.sql ≡ copying.sql
  pub pieces : IsPrefixOf fed.pieces (parts_of copying)
  pub whole : fed.is_ended ≡ true → IsFedFor copy_ends.Finish copying fed
  pub parts : PartsAs fed.parting copying fed
