-- Write events of which some writes were passed.
use Rattle.std.proofs.Common.{ℕ, ◌≡◌, ◌+◌, ◌∷◌, [], List, refl, ap, arith}
use Rattle.pg_stream.specs.declared.events.WriteEvent.{WriteEvent}
use Rattle.pg_stream.specs.declared.events.WriteEvent.TheVariants.{Take, Wait, Fail}
use Rattle.pg_stream.specs.Memory.{left_in, cut_writes}

left_whole : (event : WriteEvent) → left_in 0 event ≡ event
left_whole (Take most times) = ap (Take most) (omega arith)
left_whole Wait = refl
left_whole Fail = refl

pub cut_none : (events : List WriteEvent) → cut_writes 0 events ≡ events
cut_none [] = refl
cut_none (event ∷ events) = ap (λ (e : WriteEvent). e ∷ events) (left_whole event)

pub left_again : (n : ℕ) (event : WriteEvent) → left_in 1 (left_in n event) ≡ left_in (n + 1) event
left_again n (Take most times) = ap (Take most) (omega arith)
left_again n Wait = refl
left_again n Fail = refl
