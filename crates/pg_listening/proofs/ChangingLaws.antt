-- What a change makes of the channels.
use Rattle.std.proofs.Common.{◌≡◌, ℕ, true, false, unwrap_or, List, refl, Option, Some, None, Result, Ok, Err}
use Rattle.futures.specs.declared.task.Poll.{Poll}
use Rattle.futures.specs.declared.task.Poll.TheVariants.{Ready, Pending}
use Rattle.pg_wire.specs.declared.error.Error.{Error}
use Rattle.pg_listening.specs.Changes.{changed}
use Rattle.pg_listening.specs.declared.channel_change.ChannelChange.{ChannelChange}
use Rattle.pg_listening.specs.declared.channel_change.ChannelChange.TheVariants as changes
use Rattle.pg_listening.specs.Listening.{behind_after, channels_behind, stored_behind, waits}
use Rattle.pg_listening.specs.Hearing.{Changes, HearingOf, is_stored_first, stored_first}

-- one that is stored behind its Ok
pub asked_later : (change : ChannelChange) (channels : List (List ℕ)) → is_stored_first change ≡ false → (stored_first change channels ≡ channels) × (unwrap_or (stored_behind change channels) channels ≡ changed change channels)
asked_later (changes.Listen channel) channels e = (refl, refl)
asked_later (changes.ListenAll more) channels e = absurd cc
asked_later (changes.Unlisten channel) channels e = (refl, refl)
asked_later changes.UnlistenAll channels e = (refl, refl)

-- several are stored at once
pub stored_now : (change : ChannelChange) (channels : List (List ℕ)) → is_stored_first change ≡ true → (changed change channels ≡ stored_first change channels) × ((l : List (List ℕ)) → unwrap_or (stored_behind change l) l ≡ l)
stored_now (changes.Listen channel) channels e = absurd cc
stored_now (changes.ListenAll more) channels e = (refl, λ l. refl)
stored_now (changes.Unlisten channel) channels e = absurd cc
stored_now changes.UnlistenAll channels e = absurd cc

module _ {C S A : Type 0} where
  -- its statement is polled
  pub changes_polled : (b : HearingOf C S A) (channels : List (List ℕ)) (behind : Option (List (List ℕ))) (answer : Poll (Result (Unit {0}) Error)) → b.asked ≡ None → b.is_again ≡ false → b.listening.channels ≡ channels_behind answer behind channels → b.listening.behind ≡ behind_after answer behind
      → b.listening.is_asking ≡ waits answer → Changes channels (unwrap_or behind channels) b answer
  changes_polled b channels behind Pending asked again c l w = (c, rw (asked, l, c) refl, rw (asked, w, again) refl)
  changes_polled b channels behind (Ready (Err e)) asked again c l w = c
  changes_polled b channels None (Ready (Ok u)) asked again c l w = c
  changes_polled b channels (Some next) (Ready (Ok u)) asked again c l w = c
