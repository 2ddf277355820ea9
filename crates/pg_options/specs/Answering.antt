-- What a call of this crate answers: what is expected of it, or want of memory.
use Rattle.std.specs.Prelude.{◌≡◌, ◌⊎◌, Result, Ok, Err, MatchResult}
use Rattle.pg_wire.specs.declared.error.Error.{Error}
use Rattle.pg_wire.specs.declared.error.Error.TheVariants.{OutOfMemory}

-- the value, which only want of memory refuses
abbrev pub Makes : {T : Type 0} → Result T Error → T → Type 0
Makes result value = MatchResult result (λ x. x ≡ value) (λ e. e ≡ OutOfMemory)

-- the value, seen through `view`, or the refusal that is expected; or else memory was refused
abbrev pub GivesBy : {T U : Type 0} → (T → U) → Result T Error → Result U Error → Type 0
GivesBy view result expected =
    MatchResult result (λ x. expected ≡ Ok (view x)) (λ e. (expected ≡ Err e) ⊎ (e ≡ OutOfMemory))

-- the same of the value itself
abbrev pub Gives : {T : Type 0} → Result T Error → Result T Error → Type 0
Gives result expected = GivesBy (λ x. x) result expected

-- the next step, unless this one was refused
abbrev pub and_then : {T U : Type 0} → Result T Error → (T → Result U Error) → Result U Error
and_then (Ok x) next = next x
and_then (Err e) next = Err e
