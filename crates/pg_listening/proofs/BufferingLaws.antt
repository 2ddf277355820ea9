-- What is heard where a connection is taken up, or one is lost.
use Rattle.std.proofs.Common.{◌≡◌, ℕ, false, unwrap_or, List, [], ◌∷◌, ◌++◌, append-nil, refl, sym, ap, ◌∙◌, subst, Option, Some, None, IsSome, option_to_list, Result, Ok, Err}
use Rattle.futures.specs.declared.task.Poll.{Poll}
use Rattle.futures.specs.declared.task.Poll.TheVariants.{Ready, Pending}
use Rattle.pg_wire.specs.declared.error.Error.{Error}
use Rattle.pg_wire.specs.declared.message.notification_response.Notification.{Notification}
use Rattle.pg_stream.specs.Links.{LinkSeen}
use Rattle.pg_stream.specs.Streams.{StreamSeen, stream_by}
use Rattle.pg_conn.specs.Connections.{ConnOf}
use Rattle.pg_listening.specs.Buffers.{BuffersSeen, Hears, kept_on, news_begun}
use Rattle.pg_listening.specs.Changes.{changed, listens}
use Rattle.pg_listening.specs.declared.channel_change.ChannelChange.{ChannelChange}
use Rattle.pg_listening.specs.declared.channel_change.ChannelChange.TheVariants as changes
use Rattle.pg_listening.specs.Listening.{OnlyKept, stored_behind, stream_in}
use Rattle.pg_listening.proofs.BufferLaws.{Hears-then, hears_at, hears_begun, hears_failed, hears_lost, hears_none}
use Rattle.pg_listening.specs.Hearing.{HeardOf, HearsOver, LosesHeld, OnReady}
use Rattle.pg_listening.proofs.HearingLaws.{hears_losing, hears_then, hears_without}

-- it is saved, and then lost
lose_saved : (a m b : BuffersSeen) (s : StreamSeen) → Hears [] a m [] → m.stream ≡ Some s → kept_on m.stream ≡ [] → b.earlier ≡ m.earlier → b.stream ≡ None → Hears (s.link ∷ []) a b []
lose_saved a m b s h p k e n =
    let none : s.notifications.kept ≡ [] = subst (λ (x : Option StreamSeen). kept_on x ≡ []) p k in
    Hears-then [] (s.link ∷ []) a m b [] [] h (hears_at (s.link ∷ []) m b m.earlier m.earlier (Some s) None [] refl p e n (hears_lost s m.earlier none))

module _ {C A : Type 0} (seen : A → LinkSeen) (conn : C → ConnOf A) where
  pub hears_lose : (a b : HeardOf A) (m : BuffersSeen) (held : Option C) (d : C) (link : A) → Hears [] a.buffers m [] → m.stream ≡ stream_in conn seen held → held ≡ Some d → kept_on m.stream ≡ []
      → link ≡ (conn d).stream.link → b.lost ≡ a.lost ++ link ∷ [] → b.name ≡ a.name → b.is_eager ≡ a.is_eager → b.ignores_close ≡ a.ignores_close → b.buffers.earlier ≡ m.earlier → b.buffers.stream ≡ None → HearsOver seen a b []
  hears_lose a b m held d link h p i k l lost n e g early none =
      let stream : m.stream ≡ Some (stream_by seen (conn d).stream) = p ∙ ap (λ (o : Option C). stream_in conn seen o) i in
      let hears = lose_saved a.buffers m b.buffers (stream_by seen (conn d).stream) h stream k early none in
      hears_losing seen a b link lost n e g (subst (λ (x : A). Hears (seen x ∷ []) a.buffers b.buffers []) (sym l) hears)

module _ {C A : Type 0} (conn : C → ConnOf A) where
  -- its link is that which it had before it was saved
  pub loses_held : (o m : Option C) (d : C) (before behind : List A) (link : A) → IsSome o → OnlyKept conn o m → m ≡ Some d → link ≡ (conn d).stream.link → behind ≡ before ++ link ∷ [] → LosesHeld conn o before behind
  loses_held None m d before behind link s k i l b = absurd cc
  loses_held (Some c) m d before behind link s k i l b =
      let kept : OnlyKept conn (Some c) (Some d) = subst (λ (x : Option C). OnlyKept conn (Some c) x) i k in
      let same : link ≡ (conn c).stream.link = l ∙ ap (λ (x : ConnOf A). x.stream.link) kept in
      ([], b ∙ ap (λ (x : A). before ++ x ∷ []) same)

module _ {A : Type 0} (seen : A → LinkSeen) where
  -- a connection is taken up
  pub hears_hold : (a b : HeardOf A) (s : StreamSeen) → a.buffers.stream ≡ None → b.buffers.stream ≡ Some s → s.notifications ≡ news_begun → b.buffers.earlier ≡ a.buffers.earlier → b.lost ≡ a.lost → b.name ≡ a.name
      → b.is_eager ≡ a.is_eager → b.ignores_close ≡ a.ignores_close → HearsOver seen a b []
  hears_hold a b s none some begun early l n e g =
      hears_without seen a b [] l n e g (hears_at [] a.buffers b.buffers a.buffers.earlier a.buffers.earlier None (Some s) [] refl none early some (hears_begun s a.buffers.earlier begun))

  -- a start-up has failed
  pub hears_fail : (a b : HeardOf A) (link : A) → a.buffers.stream ≡ None → b.buffers ≡ a.buffers → b.lost ≡ a.lost ++ link ∷ [] → b.name ≡ a.name → b.is_eager ≡ a.is_eager → b.ignores_close ≡ a.ignores_close → HearsOver seen a b []
  hears_fail a b link none same lost n e g =
      let early : b.buffers.earlier ≡ a.buffers.earlier = ap (λ (x : BuffersSeen). x.earlier) same in
      let still : b.buffers.stream ≡ None = ap (λ (x : BuffersSeen). x.stream) same ∙ none in
      hears_losing seen a b link lost n e g (hears_at (seen link ∷ []) a.buffers b.buffers a.buffers.earlier a.buffers.earlier None None [] refl none early still (hears_failed (seen link) a.buffers.earlier))

  pub hears_kept : (a b : HeardOf A) (link : Option A) → a.buffers.stream ≡ None → b.buffers ≡ a.buffers → b.lost ≡ a.lost ++ option_to_list link → b.name ≡ a.name → b.is_eager ≡ a.is_eager → b.ignores_close ≡ a.ignores_close → HearsOver seen a b []
  hears_kept a b (Some link) none same lost n e g = hears_fail a b link none same lost n e g
  hears_kept a b None none same lost n e g = hears_without seen a b [] (lost ∙ append-nil a.lost) n e g (subst (λ (x : BuffersSeen). Hears [] a.buffers x []) (sym same) (hears_none a.buffers))

  -- what is heard in a call behind what is heard in another
  pub hears_behind : (a b c : HeardOf A) (g : List Notification) → HearsOver seen a b [] → HearsOver seen b c g → HearsOver seen a c g
  hears_behind a b c g p q = hears_then seen a b c [] g p q

-- a change that listens to fewer channels is what its Ok makes
pub stored_changed : (change : ChannelChange) (channels : List (List ℕ)) → listens change ≡ false → unwrap_or (stored_behind change channels) channels ≡ changed change channels
stored_changed (changes.Listen channel) channels e = absurd cc
stored_changed (changes.ListenAll more) channels e = absurd cc
stored_changed (changes.Unlisten channel) channels e = refl
stored_changed changes.UnlistenAll channels e = refl

-- what holds at an Ok leads on
pub on_ready : {X : Type 0} (answer : Poll (Result X Error)) (P Q : Type 0) → (P → Q) → OnReady answer P → OnReady answer Q
on_ready (Ready (Ok x)) P Q f p = f p
on_ready (Ready (Err e)) P Q f p = tt
on_ready Pending P Q f p = tt

pub at_once : {X A : Type 0} (answer : Poll (Result X Error)) (a b c : A) → b ≡ a → OnReady answer (c ≡ b) → OnReady answer (c ≡ a)
at_once answer a b c e o = on_ready answer (c ≡ b) (c ≡ a) (λ f. f ∙ e) o
