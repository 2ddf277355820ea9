-- The parameters that a server told (PostgreSQL manual, "Message Flow", "Asynchronous Operations": ParameterStatus).
use Rattle.std.specs.Prelude.{◌≡◌, ◌⊎◌, ℕ, if◌then◌else◌, MatchBool, List, [], ◌∷◌, ◌++◌, codes, Option, None, Some}
use Rattle.std.specs.List.{AllByRecursion}
use Rattle.std.specs.Str.{bytes_eq}
use Rattle.std.specs.Ordering.{nat_cmp}
use Rattle.std.specs.Cmp.Lexicographic.{slice_cmp}
use Rattle.std.specs.Map.{lookup}
use Rattle.std.specs.BTreeMap.{is_at, insert_entry}
use Rattle.pg_wire.specs.Frame.{Frame}
use Rattle.pg_wire.specs.Backend.{BackendMessage, ParameterStatus, HasBackendFrame, backend_frame}
use Rattle.pg_stream.specs.Versions.{version_of}

pub record ParametersSeen : Type 0 where
  -- the number of server_version
  pub version : Option ℕ
  -- each other parameter and its value, in the order of the names
  pub values : List (List ℕ × List ℕ)

abbrev pub no_parameters : ParametersSeen
no_parameters = record { version = None; values = [] }

abbrev pub value_of : List ℕ → ParametersSeen → Option (List ℕ)
value_of name p = lookup (is_at (slice_cmp nat_cmp name)) p.values

-- the parameters with one value more, which stands in place of an older one of its name
abbrev pub with_value : List ℕ → List ℕ → ParametersSeen → ParametersSeen
with_value name value p = if bytes_eq name (codes "server_version") then record p { version = version_of value } else record p { values = insert_entry (slice_cmp nat_cmp) p.values name value }

-- the frame carries a message
abbrev pub Carries : Frame → BackendMessage → Type 0
Carries frame m = HasBackendFrame m × (backend_frame m ≡ frame)

-- the frame tells no parameter
abbrev pub TellsNone : Frame → Type 0
TellsNone frame = (name value : List ℕ) → Carries frame (ParameterStatus name value) → ⊥

-- the parameters behind one more frame: a ParameterStatus sets its value, and any other frame none
abbrev pub SetsBy : Frame → ParametersSeen → ParametersSeen → Type 0
SetsBy frame a b = ((name : List ℕ) × (value : List ℕ) × Carries frame (ParameterStatus name value) × (b ≡ with_value name value a)) ⊎ (TellsNone frame × (b ≡ a))

-- the same behind several, in order
abbrev pub SetsByAll : List Frame → ParametersSeen → ParametersSeen → Type 0
SetsByAll [] a b = b ≡ a
SetsByAll (frame ∷ frames) a b = (between : ParametersSeen) × SetsBy frame a between × SetsByAll frames between b

-- the last of these frames that tells this parameter tells this value
pub record IsLastTold (name value : List ℕ) (frames : List Frame) : Type 0 where
  pub before : List Frame
  pub frame : Frame
  pub after : List Frame
  pub parts : frames ≡ before ++ frame ∷ after
  pub told : Carries frame (ParameterStatus name value)
  pub silent : AllByRecursion (λ later. (other : List ℕ) → Carries later (ParameterStatus name other) → ⊥) after

abbrev pub IsKept : List ℕ → List ℕ → ParametersSeen → Type 0
IsKept name value p = MatchBool (bytes_eq name (codes "server_version")) (p.version ≡ version_of value) (value_of name p ≡ Some value)

-- what is kept of a parameter is the last value that was told
abbrev pub KeepsLastValues : Type 0
KeepsLastValues = (frames : List Frame) (a b : ParametersSeen) → SetsByAll frames a b → (name value : List ℕ) → IsLastTold name value frames → IsKept name value b
