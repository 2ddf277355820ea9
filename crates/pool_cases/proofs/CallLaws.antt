-- The states of a listener's calls that wait.
use Rattle.std.proofs.Common.{◌≡◌, refl, Bool, true, false, Option, None, Some, Ok, IsSome}
use Rattle.either.specs.declared.Either.TheVariants.{Left, Right}
use Rattle.futures.specs.declared.task.Poll.TheVariants.{Ready, Pending}
use Rattle.pg_stream.specs.Links.{LinkSeen}
use Rattle.pg_call.specs.Answers.{either_turn}
use Rattle.pg_call.specs.declared.answer.CallItem.{CallItem}
use Rattle.pg_call.specs.declared.answer.CallItem.TheVariants as items
use Rattle.pg_call.specs.declared.answer.Turn.TheVariants as turns
use Rattle.pg_call.specs.declared.kind.Kind.{Kind}
use Rattle.pg_call.specs.declared.request.Request.{Request}
use Rattle.pg_conn.specs.Connections.{ConnOf}
use Rattle.pg_conn.specs.States.{ends_call, turn_of}
use Rattle.pg_listen.specs.Handed.{FillingOf}
use Rattle.pg_listening.specs.declared.channel_change.ChannelChange.{ChannelChange}
use Rattle.pg_listening.specs.Listening.{CallsOn, FitsOn}
use Rattle.pg_listening.specs.Hearing.{HearingOf, is_changing}
use Rattle.pg_listening.specs.Querying.{IsQuerying, QueriesOn}
use Rattle.pg_listening.specs.Sources.{SourceSeen}
use Rattle.pg_listening.specs.Listeners.{Connects, ListenerOf, goes_on}

-- it still has its listener
pub still_connecting : {B C S A : Type 0} (seen : A → LinkSeen) (conn : C → ConnOf A) (with_conn : C → ConnOf A → C) (filling : S → FillingOf A) (of : B → SourceSeen) (a b : Option (ListenerOf B C S A)) → Connects seen conn with_conn filling of a b Pending → IsSome b
still_connecting seen conn with_conn filling of None b is = absurd is
still_connecting seen conn with_conn filling of (Some a) None is = absurd is
still_connecting seen conn with_conn filling of (Some a) (Some b) is = refl

-- it is still to be polled
pub still_changing : {C S A : Type 0} (change : Option ChannelChange) (h : HearingOf C S A) → change ≡ None → is_changing h ≡ true → goes_on change h ≡ true
still_changing change h begun is = rw begun is

-- its call runs on behind an item
item_fits : {C A : Type 0} (conn : C → ConnOf A) (kind : Kind) (item : CallItem) (held : Option C) → FitsOn conn kind held (Ready (turns.Item item)) → CallsOn conn kind held
item_fits conn kind item None is = is
item_fits conn kind item (Some held) is = is.1

pub still_querying : {C S A : Type 0} (conn : C → ConnOf A) (kind : Kind) (item : CallItem) (request : Option Request) (h : HearingOf C S A) → QueriesOn conn kind request h (Ready (turns.Item item)) → IsQuerying conn kind request h
still_querying conn kind item (Some asked) h (none, fits) = absurd cc
still_querying conn kind item None h (none, fits) = item_fits conn kind item h.listening.conn fits

pub still_fetching : {C S A : Type 0} (conn : C → ConnOf A) (kind : Kind) (item : _) (is_over : Bool) (request : Option Request) (h : HearingOf C S A) → is_over ≡ ends_call (turn_of either_turn (Ready (Some (Ok item)))) → QueriesOn conn kind request h (turn_of either_turn (Ready (Some (Ok item)))) → (is_over ≡ false) × IsQuerying conn kind request h
still_fetching conn kind (Left count) is_over request h over on = (over, still_querying conn kind (items.Count count) request h on)
still_fetching conn kind (Right row) is_over request h over on = (over, still_querying conn kind (items.Row row) request h on)
