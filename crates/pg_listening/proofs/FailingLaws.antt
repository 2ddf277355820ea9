-- Why a poll answers as it does, behind what was done before it.
use Rattle.std.proofs.Common.{◌≡◌, inl, inr, ◌⊎◌, ◌≤◌, ℕ, List, [], ◌∷◌, ◌++◌, refl, sym, ap, ◌∙◌, subst, arith, Option, Some, None, option_to_list, Result, Ok, Err, IfErr}
use Rattle.futures.specs.declared.task.Poll.{Poll}
use Rattle.futures.specs.declared.task.Poll.TheVariants.{Ready, Pending}
use Rattle.pg_wire.specs.declared.error.Error.{Error}
use Rattle.pg_wire.specs.declared.error.Error.TheVariants as errors
use Rattle.pg_wire.specs.declared.message.notification_response.Notification.{Notification}
use Rattle.pg_stream.specs.Links.{LinkSeen}
use Rattle.pg_conn.specs.Cleanliness.{is_clean}
use Rattle.pg_conn.specs.Connections.{seen_by}
use Rattle.pg_conn.specs.News.{PollsNews}
use Rattle.pg_pool.specs.Sections.{Acquires}
use Rattle.pg_pool.specs.Seats.{SeatSeen}
use Rattle.pg_listen.specs.Handed.{FillingOf}
use Rattle.pg_listen.specs.Pools.{Section}
use Rattle.pg_listening.specs.Buffers.{Hears}
use Rattle.pg_listening.specs.Listening.{IsOpenPool, ListeningOf, NoneClosed, OnHeld, PollsStatement, buffers_by}
use Rattle.pg_listening.specs.Failing.{AcquiresNone, BesideSeen, CausedBy, CausedOn, Fails, FailsOn, FailsToFind, FindsNone, LastFails, LosesBy, PollsAgain, StartUpFails, beside_of}
use Rattle.pg_listening.specs.Sources.{IsDialled, SourceSeen}
use Rattle.pg_listening.specs.Hearing.{AsksAgain, HearingOf, HearsBy, buffers_of, heard_of}
use Rattle.pg_listening.specs.Leaving.{EndsStartUp, NotesClosed, RefusesClosed}
use Rattle.pg_listening.specs.Waiting.{NotesBy, OnConn, ReadiesBy, StartsFrom, WaitsBy}
use Rattle.pg_listening.proofs.ClosedLaws.{news_open}
use Rattle.pg_listening.proofs.HearingLaws.{hears_nothing, hears_then, hears_without}
use Rattle.pg_listening.proofs.WaitingLaws.{starts_then, waits_asked, waits_begun, waits_then}
use Rattle.pg_conn.specs.Connections.{ConnOf}

-- ---- behind what nothing was given in

module _ {C S A : Type 0} (seen : A → LinkSeen) (filling : S → FillingOf A) where
  start_up_from : (left now : ℕ) (s t : Option S) (last b : HearingOf C S A) (e : Error) → StartsFrom seen filling s t → StartUpFails seen filling left now t last b e → StartUpFails seen filling left now s last b e
  start_up_from left now s t last b e from f = record { last = f.last; ended = f.ended; from = starts_then seen filling s t (Some f.last) from f.from; polls = f.polls; lost = f.lost }

module _ {C S A : Type 0} (seen : A → LinkSeen) (conn : C → ConnOf A) (with_conn : C → ConnOf A → C) (filling : S → FillingOf A) where
  fails_last : (left now : ℕ) (s t : Option S) (last b : HearingOf C S A) (e : Error) → StartsFrom seen filling s t → LastFails seen conn with_conn filling left now t last b e → LastFails seen conn with_conn filling left now s last b e
  fails_last left now s t last b e from (inl memory) = inl memory
  fails_last left now s t last b e from (inr (inl read)) = inr (inl read)
  fails_last left now s t last b e from (inr (inr (inl change))) = inr (inr (inl change))
  fails_last left now s t last b e from (inr (inr (inr (inl listen)))) = inr (inr (inr (inl listen)))
  fails_last left now s t last b e from (inr (inr (inr (inr f)))) = inr (inr (inr (inr (start_up_from seen filling left now s t last b e from f))))

  fails_behind : (left mid now : ℕ) (a m b : HearingOf C S A) (e : Error) → HearsBy seen conn a m [] → StartsFrom seen filling a.startup m.startup → mid ≤ left → FailsOn seen conn with_conn filling mid now m b e → FailsOn seen conn with_conn filling left now a b e
  fails_behind left mid now a m b e hears from less f = record {
    last = f.last;
    rest = f.rest;
    fewer = omega (arith, f.fewer, less);
    leads = hears_then seen (heard_of seen conn a) (heard_of seen conn m) (heard_of seen conn f.last) [] [] hears f.leads;
    apart = f.apart;
    fails = fails_last f.rest now a.startup m.startup f.last b e from f.fails;
  }

  pub caused_on : {X : Type 0} (left mid now : ℕ) (a m b : HearingOf C S A) (answer : Poll (Result X Error)) → HearsBy seen conn a m [] → StartsFrom seen filling a.startup m.startup → mid ≤ left → CausedOn seen conn with_conn filling mid now m b answer → CausedOn seen conn with_conn filling left now a b answer
  caused_on left mid now a m b Pending h s less w = waits_then seen conn filling left mid now a m b b h s less refl refl w
  caused_on left mid now a m b (Ready (Err e)) h s less f = fails_behind left mid now a m b e h s less f
  caused_on left mid now a m b (Ready (Ok x)) h s less f = tt

module _ {C S A : Type 0} (seen : A → LinkSeen) (conn : C → ConnOf A) where
  -- the dial had counted as many faults meanwhile
  find_behind : (o : BesideSeen) (before : ℕ) (a m b : HearingOf C S A) (e : Error) → before ≡ o.before → HearsBy seen conn a m [] → FailsToFind seen conn (record o { before = before }) m b e → FailsToFind seen conn o a b e
  find_behind o before a m b e same hears f = record {
    last = f.last;
    link = f.link;
    leads = hears_then seen (heard_of seen conn a) (heard_of seen conn m) (heard_of seen conn f.last) [] [] hears f.leads;
    lost = f.lost;
    none = subst (λ (n : ℕ). FindsNone seen (record o { before = n }) e f.link) same f.none;
  }

module _ {C S A : Type 0} (seen : A → LinkSeen) (conn : C → ConnOf A) (with_conn : C → ConnOf A → C) (filling : S → FillingOf A) where
  pub every_fails : (o : BesideSeen) (before left mid now : ℕ) (a m b : HearingOf C S A) (e : Error) → before ≡ o.before → HearsBy seen conn a m [] → StartsFrom seen filling a.startup m.startup → mid ≤ left → Fails seen conn with_conn filling (record o { before = before }) mid now m b e → Fails seen conn with_conn filling o left now a b e
  every_fails o before left mid now a m b e same h s less (inl f) = inl (fails_behind seen conn with_conn filling left mid now a m b e h s less f)
  every_fails o before left mid now a m b e same h s less (inr (inl f)) = inr (inl (find_behind seen conn o before a m b e same h f))
  every_fails o before left mid now a m b e same h s less (inr (inr f)) = inr (inr f)

  pub caused_by : {X : Type 0} (o : BesideSeen) (before left mid now : ℕ) (a m b : HearingOf C S A) (answer : Poll (Result X Error)) → before ≡ o.before → HearsBy seen conn a m [] → StartsFrom seen filling a.startup m.startup → mid ≤ left → CausedBy seen conn with_conn filling (record o { before = before }) mid now m b answer
      → CausedBy seen conn with_conn filling o left now a b answer
  caused_by o before left mid now a m b Pending same h s less w = waits_then seen conn filling left mid now a m b b h s less refl refl w
  caused_by o before left mid now a m b (Ready (Err e)) same h s less f = every_fails o before left mid now a m b e same h s less f
  caused_by o before left mid now a m b (Ready (Ok x)) same h s less f = f ∙ same

  -- behind what changed the source, and counted no fault of its dial
  pub caused_then : {X : Type 0} (s m t : SourceSeen) (left mid now : ℕ) (a h b : HearingOf C S A) (answer : Poll (Result X Error)) → IsDialled s m → m.faults ≡ s.faults → HearsBy seen conn a h [] → StartsFrom seen filling a.startup h.startup → mid ≤ left
      → CausedBy seen conn with_conn filling (beside_of m t) mid now h b answer → CausedBy seen conn with_conn filling (beside_of s t) left now a b answer
  caused_then s m t left mid now a h b answer dials same hears starts less causes =
      caused_by (beside_of s t) m.faults left mid now a h b answer same hears starts less (subst (λ (o : BesideSeen). CausedBy seen conn with_conn filling o mid now h b answer) (ap (λ (x : SourceSeen). beside_of x t) dials) causes)

  pub fails_then : (s m t : SourceSeen) (left mid now : ℕ) (a h b : HearingOf C S A) (e : Error) → IsDialled s m → m.faults ≡ s.faults → HearsBy seen conn a h [] → StartsFrom seen filling a.startup h.startup → mid ≤ left
      → Fails seen conn with_conn filling (beside_of m t) mid now h b e → Fails seen conn with_conn filling (beside_of s t) left now a b e
  fails_then s m t left mid now a h b e dials same hears starts less f =
      every_fails (beside_of s t) m.faults left mid now a h b e same hears starts less (subst (λ (o : BesideSeen). Fails seen conn with_conn filling o mid now h b e) (ap (λ (x : SourceSeen). beside_of x t) dials) f)

  -- what works on what is held alone leaves the dial as it is
  pub caused_beside : {X : Type 0} (o : BesideSeen) (left now : ℕ) (a b : HearingOf C S A) (answer : Poll (Result X Error)) → o.behind ≡ o.before → CausedOn seen conn with_conn filling left now a b answer → CausedBy seen conn with_conn filling o left now a b answer
  caused_beside o left now a b Pending same w = w
  caused_beside o left now a b (Ready (Err e)) same f = inl f
  caused_beside o left now a b (Ready (Ok x)) same f = same

  -- ---- what one call of what is held does

  pub memory_fails : (left now : ℕ) (a b : HearingOf C S A) (e : Error) → e ≡ errors.OutOfMemory → FailsOn seen conn with_conn filling left now a b e
  memory_fails left now a b e is = record {
    last = a;
    rest = left;
    fewer = omega arith;
    leads = hears_nothing seen (heard_of seen conn a) (heard_of seen conn a) refl;
    apart = subst (λ (x : Error). IsOpenPool x) (sym is) tt;
    fails = inl is;
  }

pub wanting : {X P : Type 0} (e : Error) (result : Result X Error) → result ≡ Err e → P × (result ≡ Err errors.OutOfMemory) → e ≡ errors.OutOfMemory
wanting e result is (same, memory) = cc

pub refused_memory : {X : Type 0} (e : Error) (result : Result X Error) → result ≡ Err e → result ≡ Err errors.OutOfMemory → e ≡ errors.OutOfMemory
refused_memory e result is memory = cc

module _ {C S A : Type 0} (seen : A → LinkSeen) (conn : C → ConnOf A) where
  -- no connection was found
  pub not_found : (o : BesideSeen) (a b : HearingOf C S A) (e : Error) (link : Option A) → b.lost ≡ a.lost ++ option_to_list link → FindsNone seen o e link → (e ≡ errors.OutOfMemory) ⊎ FailsToFind seen conn o a b e
  not_found o a b e link lost none = inr (record { last = a; link = link; leads = hears_nothing seen (heard_of seen conn a) (heard_of seen conn a) refl; lost = lost; none = none })

module _ {C S A : Type 0} (seen : A → LinkSeen) (conn : C → ConnOf A) (with_conn : C → ConnOf A → C) (filling : S → FillingOf A) where
  pub unfound : (o : BesideSeen) (left now : ℕ) (a b : HearingOf C S A) (e : Error) → (e ≡ errors.OutOfMemory) ⊎ FailsToFind seen conn o a b e → Fails seen conn with_conn filling o left now a b e
  unfound o left now a b e (inl memory) = inl (memory_fails seen conn with_conn filling left now a b e memory)
  unfound o left now a b e (inr f) = inr (inl f)

  -- the start-up that was there has failed
  pub start_fails : (left now : ℕ) (a b : HearingOf C S A) (e : Error) (link : Option A) → IsOpenPool e → EndsStartUp seen filling left now a.startup e link → b.lost ≡ a.lost ++ option_to_list link → FailsOn seen conn with_conn filling left now a b e
  start_fails left now a b e link apart f lost = record {
    last = a;
    rest = left;
    fewer = omega arith;
    leads = hears_nothing seen (heard_of seen conn a) (heard_of seen conn a) refl;
    apart = apart;
    fails = inr (inr (inr (inr (record { last = f.last; ended = f.ended; from = inl (sym f.is); polls = f.polls; lost = lost ∙ ap (λ (x : Option A). a.lost ++ option_to_list x) f.link_is }))));
  }

module _ {C S A : Type 0} (seen : A → LinkSeen) (conn : C → ConnOf A) (filling : S → FillingOf A) where
  -- the statement that listens to all of the channels waits, or has ended well
  pub again_waits : (left now : ℕ) (a b : HearingOf C S A) → PollsAgain seen conn left a b Pending → WaitsBy seen conn filling left now a b
  again_waits left now a b (inl e) = absurd cc
  again_waits left now a b (inr p) = waits_asked seen conn filling left now a b p

module _ {C S A : Type 0} (seen : A → LinkSeen) (conn : C → ConnOf A) (with_conn : C → ConnOf A → C) where
  pub again_readies : (left : ℕ) (a asked b : HearingOf C S A) → AsksAgain conn with_conn a asked → PollsAgain seen conn left asked b (Ready (Ok tt)) → ReadiesBy seen conn with_conn a b
  again_readies left a asked b asks (inl e) = absurd cc
  again_readies left a asked b asks (inr p) = inr (record { before = a; asked = asked; left = left; channels_are = refl; asks = asks; ends = p })

module _ {C S A : Type 0} (seen : A → LinkSeen) (conn : C → ConnOf A) (with_conn : C → ConnOf A → C) (filling : S → FillingOf A) where
  -- it has failed
  pub listen_fails : (left now : ℕ) (a asked polled b : HearingOf C S A) (e result : Error) → AsksAgain conn with_conn a asked → IsOpenPool e → PollsAgain seen conn left asked polled (Ready (Err e)) → LosesBy conn e polled b result → FailsOn seen conn with_conn filling left now a b result
  listen_fails left now a asked polled b e result asks apart polls (inr memory) = memory_fails seen conn with_conn filling left now a b result memory
  listen_fails left now a asked polled b e result asks apart (inl memory) (inl (same, lost)) =
      let is : e ≡ errors.OutOfMemory = cc in
      memory_fails seen conn with_conn filling left now a b result (same ∙ is)
  listen_fails left now a asked polled b e result asks apart (inr ends) (inl (same, lost)) = subst (λ (x : Error). FailsOn seen conn with_conn filling left now a b x) (sym same) (record {
    last = a;
    rest = left;
    fewer = omega arith;
    leads = hears_nothing seen (heard_of seen conn a) (heard_of seen conn a) refl;
    apart = apart;
    fails = inr (inr (inr (inl (record { asked = asked; polled = polled; asks = asks; ends = ends; lost = lost }))));
  })

  -- a statement that runs was polled
  pub caused_statement : (left now : ℕ) (a b : HearingOf C S A) (answer : Poll (Result (Unit {0}) Error)) → NoneClosed answer → OnConn seen conn (λ c d. PollsStatement left c d answer) a b → CausedOn seen conn with_conn filling left now a b answer
  caused_statement left now a b Pending apart p = waits_asked seen conn filling left now a b p
  caused_statement left now a b (Ready (Ok u)) apart p = tt
  caused_statement left now a b (Ready (Err e)) apart p = record {
    last = a;
    rest = left;
    fewer = omega arith;
    leads = hears_nothing seen (heard_of seen conn a) (heard_of seen conn a) refl;
    apart = apart;
    fails = inr (inr (inl p));
  }

  -- one was begun, and polled
  pub caused_asked : (left now : ℕ) (a b : HearingOf C S A) (l : ListeningOf C) (answer : Poll (Result (Unit {0}) Error)) → Hears [] (buffers_of seen conn a) (buffers_by conn seen l) [] → NoneClosed answer
      → OnHeld (λ c d. PollsStatement left c d answer) conn seen l.conn b.listening.conn → CausedOn seen conn with_conn filling left now a b answer
  caused_asked left now a b l Pending h apart p = waits_begun seen conn filling left now a b l h p
  caused_asked left now a b l (Ready (Ok u)) h apart p = tt
  caused_asked left now a b l (Ready (Err e)) h apart p = record {
    last = record a { listening = l };
    rest = left;
    fewer = omega arith;
    leads = hears_without seen (heard_of seen conn a) (heard_of seen conn (record a { listening = l })) [] refl refl refl refl h;
    apart = apart;
    fails = inr (inr (inl p));
  }

module _ {C A : Type 0} (seen : A → LinkSeen) (conn : C → ConnOf A) where
  open_news : (left now : ℕ) (o n : Option C) (e : Error) → OnHeld (λ c d. PollsNews left now c d (Ready (Err e))) conn seen o n → IsOpenPool e
  open_news left now None n e p = absurd p
  open_news left now (Some c) None e p = absurd p
  open_news left now (Some c) (Some d) e p = news_open left now (seen_by seen (conn c)) (seen_by seen (conn d)) e p

module _ {C S A : Type 0} (seen : A → LinkSeen) (conn : C → ConnOf A) (with_conn : C → ConnOf A → C) (filling : S → FillingOf A) where
  -- a notification was waited for
  pub caused_news : (left now : ℕ) (a b : HearingOf C S A) (answer : Poll (Result Notification Error)) → ((oldest : Notification) (later : List Notification) → a.listening.earlier ≡ oldest ∷ later → answer ≡ Ready (Ok oldest))
      → (a.listening.earlier ≡ [] → OnConn seen conn (λ c d. PollsNews left now c d answer) a b) → CausedOn seen conn with_conn filling left now a b answer
  caused_news left now a b answer first polls = by a.listening.earlier refl
    where
      none : (answer : Poll (Result Notification Error)) → OnConn seen conn (λ c d. PollsNews left now c d answer) a b → CausedOn seen conn with_conn filling left now a b answer
      none Pending p = record { last = a; rest = left; fewer = omega arith; leads = hears_nothing seen (heard_of seen conn a) (heard_of seen conn a) refl; waits = inl p }
      none (Ready (Ok news)) p = tt
      none (Ready (Err e)) p = record {
        last = a;
        rest = left;
        fewer = omega arith;
        leads = hears_nothing seen (heard_of seen conn a) (heard_of seen conn a) refl;
        apart = open_news seen conn left now a.listening.conn b.listening.conn e p;
        fails = inr (inl p);
      }

      by : (e : List Notification) → a.listening.earlier ≡ e → CausedOn seen conn with_conn filling left now a b answer
      by [] is = none answer (polls is)
      by (oldest ∷ later) is = subst (λ (x : Poll (Result Notification Error)). CausedOn seen conn with_conn filling left now a b x) (sym (first oldest later is)) tt
      -- ---- a pool that was closed

pub acquires_none : (A : Type 0) (most : ℕ) (s t : SeatSeen) (e : Error) → Section {A = A} most (λ a b. Acquires is_clean s t a b (Err e)) → AcquiresNone A most t e
acquires_none A most s t e p = (p.0, p.1, p.2, p.3, (s, p.4))

pub refused_by : (A : Type 0) (most : ℕ) (s t : SeatSeen) (result : Result (Unit {0}) Error) → Section {A = A} most (λ a b. RefusesClosed s t a b result) → IfErr result (λ e. Section {A = A} most (λ a b. (s : SeatSeen) × RefusesClosed s t a b (Err e)))
refused_by A most s t (Ok u) p = tt
refused_by A most s t (Err e) p = (p.0, p.1, p.2, p.3, (s, p.4))

pub notes_open : (A : Type 0) (most : ℕ) (t : SeatSeen) (e : Error) → IsOpenPool e → NotesClosed A most t e
notes_open A most t (errors.PoolClosed place) apart = absurd apart
notes_open A most t _ apart = tt

notes_acquired : (A : Type 0) (most : ℕ) (t : SeatSeen) (e : Error) → AcquiresNone A most t e → NotesClosed A most t e
notes_acquired A most t (errors.PoolClosed place) p = p
notes_acquired A most t _ p = tt

notes_refused : (A : Type 0) (most : ℕ) (t : SeatSeen) (e : Error) → Section {A = A} most (λ a b. (s : SeatSeen) × RefusesClosed s t a b (Err e)) → NotesClosed A most t e
notes_refused A most t (errors.PoolClosed place) p = p
notes_refused A most t _ p = tt

module _ {A : Type 0} (seen : A → LinkSeen) where
  found_none : (o : BesideSeen) (e : Error) (link : Option A) → FindsNone seen o e link → NotesClosed A o.most o.seat e
  found_none o e link (inl p) = notes_acquired A o.most o.seat e p
  found_none o e link (inr p) = notes_open A o.most o.seat e p.0

module _ {C S A : Type 0} (seen : A → LinkSeen) (conn : C → ConnOf A) (with_conn : C → ConnOf A → C) (filling : S → FillingOf A) where
  -- where it is told that the pool was closed, this is noted
  pub notes_caused : {X : Type 0} (o : BesideSeen) (left now : ℕ) (a b : HearingOf C S A) (answer : Poll (Result X Error)) → CausedBy seen conn with_conn filling o left now a b answer → NotesBy A o.most o.seat answer
  notes_caused o left now a b Pending f = tt
  notes_caused o left now a b (Ready (Ok x)) f = tt
  notes_caused o left now a b (Ready (Err e)) (inl f) = notes_open A o.most o.seat e f.apart
  notes_caused o left now a b (Ready (Err e)) (inr (inl f)) = found_none seen o e f.link f.none
  notes_caused o left now a b (Ready (Err e)) (inr (inr f)) = notes_refused A o.most o.seat e f
