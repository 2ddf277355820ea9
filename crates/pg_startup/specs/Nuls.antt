-- Zero bytes, which no text in a message can have (PostgreSQL manual, "Message Data Types", String).
use Rattle.std.specs.Prelude.{◌≡◌, ℕ, List, [], ◌∷◌, nat_eq, Option, None, Some}
use Rattle.std.specs.List.{position}
use Rattle.std.specs.Option.{option_or}
use Rattle.pg_wire.specs.declared.error.Error.{Error}
use Rattle.pg_wire.specs.declared.error.Error.TheVariants.{Configuration}
use Rattle.pg_wire.specs.declared.error.ConfigPart.TheVariants.{Nul}

-- the place of the first zero byte in a text
unfoldable pub first_nul : List ℕ → Option ℕ
first_nul text = position (nat_eq 0) text

-- the same in the first of these texts that has one
abbrev pub first_nul_in : List (List ℕ) → Option ℕ
first_nul_in [] = None
first_nul_in (text ∷ texts) = option_or (first_nul text) (first_nul_in texts)

-- the refusal names it
abbrev pub IsNulIn : List (List ℕ) → Error → Type 0
IsNulIn texts e = (place : ℕ) × (first_nul_in texts ≡ Some place) × (e ≡ Configuration Nul place)
