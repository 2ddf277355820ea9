-- A truth value in the first column of a row (PostgreSQL manual, "Boolean Type", whose binary form is one byte, 0 or 1).
use Rattle.std.specs.Prelude.{ℕ, nat_eq, Bool, true, false, List, [], ◌∷◌, Option, Some, None, option_map, if◌then◌else◌}
use Rattle.pg_wire.specs.Backend.{Values}

-- the value that these bytes are, if they are one
abbrev pub flag_of : List ℕ → Option Bool
flag_of [] = None
flag_of (b ∷ []) = if nat_eq b 0 then Some false else (if nat_eq b 1 then Some true else None)
flag_of (b ∷ c ∷ bs) = None

-- the value of a row's first column, or a null; None where there is neither
abbrev pub flag_in : Values → Option (Option Bool)
flag_in [] = None
flag_in (None ∷ values) = Some None
flag_in (Some bytes ∷ values) = option_map (λ flag. Some flag) (flag_of bytes)
