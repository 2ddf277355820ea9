-- What holds of a poll's answer leads on.
use Rattle.std.proofs.Common.{◌≡◌, Bool, true, false, refl, Some, None, Result, Ok, Err}
use Rattle.futures.specs.declared.task.Poll.{Poll}
use Rattle.futures.specs.declared.task.Poll.TheVariants.{Ready, Pending}
use Rattle.pg_wire.specs.declared.error.Error.{Error}
use Rattle.pg_wire.specs.declared.message.notification_response.Notification.{Notification}
use Rattle.pg_listening.specs.Failing.{OnFailed}
use Rattle.pg_listening.specs.Waiting.{OnPending}
use Rattle.pg_listening.specs.Listeners.{AnswersNone}

pub on_pending : {X : Type 0} (answer : Poll X) (P Q : Type 0) → (P → Q) → OnPending answer P → OnPending answer Q
on_pending Pending P Q f p = f p
on_pending (Ready x) P Q f p = tt

pub on_failed : {X : Type 0} (answer : Poll (Result X Error)) (P Q : Error → Type 0) → ((e : Error) → P e → Q e) → OnFailed P answer → OnFailed Q answer
on_failed (Ready (Err e)) P Q f p = f e p
on_failed (Ready (Ok x)) P Q f p = tt
on_failed Pending P Q f p = tt

-- None is answered where a stream was over, and nothing else then
pub none_over : (b : Bool) → b ≡ true → AnswersNone b (Ready None)
none_over true e = refl
none_over false e = absurd cc

pub none_yet : (b : Bool) → b ≡ false → AnswersNone b Pending
none_yet false e = λ is. absurd cc
none_yet true e = absurd cc

pub none_told : (b : Bool) → b ≡ false → (told : Result Notification Error) → AnswersNone b (Ready (Some told))
none_told false e told = λ is. absurd cc
none_told true e told = absurd cc
