-- What is heard from one state to the next adds up.
use Rattle.std.proofs.Common.{◌≡◌, inl, inr, List, [], ◌∷◌, ◌++◌, append-nil, append_assoc, ◌+◌, length, map, refl, sym, ap, ◌∙◌, subst, arith, Option, Some, None, Result, Ok, Err, IsSome}
use Rattle.std.proofs.lemmas.List.{length-append, map-append}
use Rattle.futures.specs.declared.task.Poll.{Poll}
use Rattle.futures.specs.declared.task.Poll.TheVariants.{Ready, Pending}
use Rattle.pg_wire.specs.declared.error.Error.{Error}
use Rattle.pg_wire.specs.declared.message.notification_response.Notification.{Notification}
use Rattle.pg_stream.specs.Links.{LinkSeen, NoneFalls}
use Rattle.pg_stream.specs.Streams.{StreamSeen, stream_by}
use Rattle.pg_stream.proofs.StreamLemmas.{Rose-after}
use Rattle.pg_listening.specs.Buffers.{BuffersSeen, Hears, ReadsOver}
use Rattle.pg_listening.specs.Listening.{stream_in}
use Rattle.pg_listening.proofs.BufferLaws.{Hears-then, hears_none}
use Rattle.pg_listening.specs.Hearing.{FailedSince, HeardOf, HearingOf, HearsBy, HearsOver, IsUntold, LosesHeld, LosesOne, TellsLoss, heard_of}
use Rattle.pg_conn.specs.Connections.{ConnOf}

module _ {A : Type 0} (seen : A → LinkSeen) where
  -- no link was lost
  pub hears_without : (a b : HeardOf A) (gave : List Notification) → b.lost ≡ a.lost → b.name ≡ a.name → b.is_eager ≡ a.is_eager → b.ignores_close ≡ a.ignores_close
      → Hears [] a.buffers b.buffers gave → HearsOver seen a b gave
  hears_without a b gave l n e i h = record { links = []; lost = l ∙ sym (append-nil a.lost); hears = h; name = n; settings = (e, i) }

  -- nothing was heard
  pub hears_nothing : (a b : HeardOf A) → b ≡ a → HearsOver seen a b []
  hears_nothing a b s = subst (λ (x : HeardOf A). HearsOver seen a x []) (sym s) (hears_without a a [] refl refl refl refl (hears_none a.buffers))

  -- one was lost
  pub hears_losing : (a b : HeardOf A) (link : A) → b.lost ≡ a.lost ++ link ∷ [] → b.name ≡ a.name → b.is_eager ≡ a.is_eager → b.ignores_close ≡ a.ignores_close
      → Hears (seen link ∷ []) a.buffers b.buffers [] → HearsOver seen a b []
  hears_losing a b link l n e i h = record { links = link ∷ []; lost = l; hears = h; name = n; settings = (e, i) }

  pub hears_then : (a b c : HeardOf A) (g h : List Notification) → HearsOver seen a b g → HearsOver seen b c h → HearsOver seen a c (g ++ h)
  hears_then a b c g h p q = record {
    links = p.links ++ q.links;
    lost = q.lost ∙ ap (λ (l : List A). l ++ q.links) p.lost ∙ append_assoc a.lost p.links q.links;
    hears = subst (λ (l : List LinkSeen). Hears l a.buffers c.buffers (g ++ h)) (sym (map-append seen p.links q.links)) (Hears-then (map seen p.links) (map seen q.links) a.buffers b.buffers c.buffers g h p.hears q.hears);
    name = q.name ∙ p.name;
    settings = (q.settings.0 ∙ p.settings.0, q.settings.1 ∙ p.settings.1);
  }
  -- ---- losses

no_links : {A : Type 0} (before links : List A) → before ≡ before ++ links → links ≡ []
no_links before [] e = refl
no_links {A} before (link ∷ links) e =
    let same : length before ≡ length before + length (link ∷ links) = ap (λ (l : List A). length l) e ∙ length-append before (link ∷ links) in
    absurd (omega (arith, same))

-- a connection that is held before and behind, where none was lost, counts on
same_held : (a b : BuffersSeen) (s t : StreamSeen) (l : List LinkSeen) (g : List Notification) → l ≡ [] → Hears l a b g → a.stream ≡ Some s → b.stream ≡ Some t → NoneFalls s.link t.link
same_held a b s t l g n h p q =
    let first : ReadsOver [] a.stream b.stream h.news = subst (λ (x : List LinkSeen). ReadsOver x a.stream b.stream h.news) n h.over in
    let second : ReadsOver [] (Some s) b.stream h.news = subst (λ (x : Option StreamSeen). ReadsOver [] x b.stream h.news) p first in
    let third : ReadsOver [] (Some s) (Some t) h.news = subst (λ (x : Option StreamSeen). ReadsOver [] (Some s) x h.news) q second in
    third.counts

module _ {A : Type 0} (seen : A → LinkSeen) where
  pub counts_on : (a b : HeardOf A) (s t : StreamSeen) (g : List Notification) → HearsOver seen a b g → b.lost ≡ a.lost → a.buffers.stream ≡ Some s → b.buffers.stream ≡ Some t → NoneFalls s.link t.link
  counts_on a b s t g h same p q =
      let none : h.links ≡ [] = no_links a.lost h.links (sym same ∙ h.lost) in
      same_held a.buffers b.buffers s t (map seen h.links) g (ap (λ (l : List A). map seen l) none) h.hears p q

module _ {C A : Type 0} (seen : A → LinkSeen) (conn : C → ConnOf A) where
  -- what has failed since has failed since before
  failed_since : (o : Option C) (d : C) (link : A) → ((c : C) → o ≡ Some c → NoneFalls (seen (conn c).stream.link) (seen (conn d).stream.link)) → FailedSince seen conn (Some d) link → FailedSince seen conn o link
  failed_since None d link n (inl r) = inl (omega (arith, r))
  failed_since None d link n (inr r) = inr (omega (arith, r))
  failed_since (Some c) d link n (inl r) = inl (Rose-after _ _ _ (n c refl).ends r)
  failed_since (Some c) d link n (inr r) = inr (Rose-after _ _ _ (n c refl).faults r)

module _ {C S A : Type 0} (seen : A → LinkSeen) (conn : C → ConnOf A) where
  -- a loss behind what loses none
  pub loses_after : (a m : HearingOf C S A) (behind : List A) → HearsBy seen conn a m [] → m.lost ≡ a.lost → IsSome m.listening.conn → LosesOne seen conn m.listening.conn m.lost behind → LosesOne seen conn a.listening.conn a.lost behind
  loses_after a m behind h same held l = by m.listening.conn refl held l.failed
    where
      by : (o : Option C) → m.listening.conn ≡ o → IsSome o → FailedSince seen conn o l.link → LosesOne seen conn a.listening.conn a.lost behind
      by None e s f = absurd cc
      by (Some d) e s f =
          let on : (c : C) → a.listening.conn ≡ Some c → NoneFalls (seen (conn c).stream.link) (seen (conn d).stream.link) =
          λ c e2. counts_on seen (heard_of seen conn a) (heard_of seen conn m) (stream_by seen (conn c).stream) (stream_by seen (conn d).stream) [] h same
          (ap (λ (o : Option C). stream_in conn seen o) e2) (ap (λ (o : Option C). stream_in conn seen o) e) in
          record { link = l.link; more = l.more; lost = l.lost ∙ ap (λ (x : List A). x ++ l.link ∷ l.more) same; failed = failed_since seen conn a.listening.conn d l.link on f }

  pub tells_after : (a m b : HearingOf C S A) (answer : Poll (Result (Option Notification) Error)) → HearsBy seen conn a m [] → m.lost ≡ a.lost → m.is_lost ≡ a.is_lost → IsSome m.listening.conn → TellsLoss seen conn m b answer → TellsLoss seen conn a b answer
  tells_after a m b answer h same is held t = by answer t
    where
      untold : IsUntold seen conn m b → IsUntold seen conn a b
      untold (inl e) = inl (sym is ∙ e)
      untold (inr l) = inr (loses_after a m b.lost h same held l)

      by : (answer : Poll (Result (Option Notification) Error)) → TellsLoss seen conn m b answer → TellsLoss seen conn a b answer
      by (Ready (Ok None)) t = (t.0, untold t.1)
      by (Ready (Ok (Some news))) t = λ e. untold (t e)
      by (Ready (Err e)) t = λ e. untold (t e)
      by Pending t = λ e. untold (t e)

module _ {C A : Type 0} (conn : C → ConnOf A) where
  -- more links are lost behind that of the connection that was held
  pub loses_on : (o : Option C) (before now links behind : List A) → LosesHeld conn o before now → behind ≡ now ++ links → LosesHeld conn o before behind
  loses_on None before now links behind l e = absurd l
  loses_on (Some held) before now links behind l e =
      let link = (conn held).stream.link in
      (l.0 ++ links, e ∙ ap (λ (x : List A). x ++ links) l.1 ∙ append_assoc before (link ∷ l.0) links)
