-- A poll of the connection that is lent is one of the holder's.
use Rattle.std.proofs.Common.{◌≡◌, ℕ, sym, subst, Result}
use Rattle.futures.specs.declared.task.Poll.{Poll}
use Rattle.pg_wire.specs.declared.error.Error.{Error}
use Rattle.pg_wire.specs.declared.message.notification_response.Notification.{Notification}
use Rattle.pg_stream.specs.Links.{LinkSeen}
use Rattle.pg_conn.specs.Connections.{ConnOf, seen_by}
use Rattle.pg_conn.specs.News.{PollsNews}

pub polls_held : {A : Type 0} (seen : A → LinkSeen) (l n : ℕ) (a e d w : ConnOf A) (answer : Poll (Result Notification Error)) → e ≡ a → d ≡ w → PollsNews l n (seen_by seen e) (seen_by seen w) answer → PollsNews l n (seen_by seen a) (seen_by seen d) answer
polls_held {A} seen l n a e d w answer lent held polls =
    subst (λ (x : ConnOf A). PollsNews l n (seen_by seen a) (seen_by seen x) answer) (sym held) (subst (λ (x : ConnOf A). PollsNews l n (seen_by seen x) (seen_by seen w) answer) lent polls)

-- so is what is said of any step of it
pub at_held : {A : Type 0} (P : ConnOf A → ConnOf A → Type 0) (a e d w : ConnOf A) → e ≡ a → d ≡ w → P e w → P a d
at_held {A} P a e d w lent held p = subst (λ (x : ConnOf A). P a x) (sym held) (subst (λ (x : ConnOf A). P x w) lent p)
