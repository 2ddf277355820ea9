-- How a function that reads answers what its definition says.
use Rattle.std.specs.Prelude.{◌≡◌, Option, Some, None, Result, Ok, Err, option_and_then, List, [], ◌∷◌}
use Rattle.pg_script.specs.declared.error.LineError.{LineError}
use Rattle.pg_script.specs.declared.error.LineError.TheVariants as errors

infixl 10 ◌>>=◌
abbrev pub ◌>>=◌ : {A B : Type 0} → Option A → (A → Option B) → Option B
o >>= f = option_and_then f o

-- the error of what has no value; memory may always be refused
abbrev pub Fails : {Y : Type 0} → LineError → Option Y → Type 0
Fails errors.Bad read = read ≡ None
Fails errors.OutOfMemory read = Unit {0}

-- the value, and an error where there is none
abbrev pub Gives : {X Y : Type 0} → (X → Y) → Result X LineError → Option Y → Type 0
Gives view (Ok x) read = read ≡ Some (view x)
Gives view (Err e) read = Fails e read

-- a machine that takes one thing after the other, and is finished at the end
unfoldable pub run : {S A R : Type 0} → (S → A → Option S) → (S → Option R) → S → List A → Option R
run step finish s [] = finish s
run step finish s (x ∷ xs) = step s x >>= λ t. run step finish t xs
