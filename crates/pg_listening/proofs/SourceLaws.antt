-- What changes of where a listener's connections come from.
use Rattle.std.proofs.Common.{◌≡◌, ℕ, sym, ap, ◌∙◌, subst}
use Rattle.pg_options.specs.Options.{ConnectOptions}
use Rattle.pg_pool.specs.Seats.{SeatSeen}
use Rattle.pg_listening.specs.Failing.{BesideSeen, beside_of}
use Rattle.pg_listening.specs.Sources.{IsDialled, IsSeated, SourceSeen}

pub faults_stay : (a b : SourceSeen) → IsSeated a b → b.faults ≡ a.faults
faults_stay a b p = ap (λ (s : SourceSeen). s.faults) p

pub dialled : (a b : SourceSeen) → IsSeated a b → IsDialled a b
dialled a b p = p ∙ ap (λ (n : ℕ). record a { seat = b.seat; faults = n }) (sym (faults_stay a b p))

pub seated_then : (a b c : SourceSeen) → IsSeated a b → IsSeated b c → IsSeated a c
seated_then a b c p q = q ∙ ap (λ (s : SourceSeen). record s { seat = c.seat }) p

pub dialled_then : (a b c : SourceSeen) → IsDialled a b → IsDialled b c → IsDialled a c
dialled_then a b c p q = q ∙ ap (λ (s : SourceSeen). record s { seat = c.seat; faults = c.faults }) p

-- what lies beside a listener is told by what stays
pub beside_stays : (a m b : SourceSeen) → IsSeated a m → beside_of m b ≡ beside_of a b
beside_stays a m b p = ap (λ (s : SourceSeen). beside_of s b) p

-- it is told through what holds the pool and the participant
pub beside_at : (P : BesideSeen → Type 0) (o : BesideSeen) (options : ConnectOptions) (seat : SeatSeen) → options ≡ o.options → seat ≡ o.seat → P (record o { options = options; seat = seat }) → P o
beside_at P o options seat pool held p = subst (λ (x : ConnectOptions). P (record o { options = x })) pool (subst (λ (s : SeatSeen). P (record o { options = options; seat = s })) held p)
