-- Why a poll waits, behind what was done before it.
use Rattle.std.proofs.Common.{◌≡◌, inl, inr, ◌≤◌, ℕ, [], refl, sym, ◌∙◌, subst, arith, Option}
use Rattle.futures.specs.declared.task.Poll.TheVariants.{Pending}
use Rattle.pg_stream.specs.Links.{LinkSeen}
use Rattle.pg_listen.specs.Handed.{FillingOf}
use Rattle.pg_listening.specs.Buffers.{Hears}
use Rattle.pg_listening.specs.Listening.{ListeningOf, OnHeld, PollsStatement, buffers_by}
use Rattle.pg_listening.specs.Hearing.{HearingOf, HearsBy, buffers_of, heard_of}
use Rattle.pg_listening.specs.Leaving.{IsFresh, PollsOn}
use Rattle.pg_listening.specs.Waiting.{LastWaits, OnConn, StartUpWaits, StartsFrom, WaitsBy}
use Rattle.pg_listening.proofs.HearingLaws.{hears_nothing, hears_then, hears_without}
use Rattle.pg_conn.specs.Connections.{ConnOf}

-- ---- start-ups

module _ {S A : Type 0} (seen : A → LinkSeen) (filling : S → FillingOf A) where
  pub starts_then : (a b c : Option S) → StartsFrom seen filling a b → StartsFrom seen filling b c → StartsFrom seen filling a c
  starts_then a b c p (inr f) = inr f
  starts_then a b c (inl p) (inl q) = inl (q ∙ p)
  starts_then a b c (inr f) (inl q) = inr (subst (λ (x : Option S). IsFresh seen filling x) (sym q) f)

  waits_from : (left now : ℕ) (a b c d : Option S) → StartsFrom seen filling a b → d ≡ c → StartUpWaits seen filling left now b c → StartUpWaits seen filling left now a d
  waits_from left now a b c d s e (startup, from, polls) = (startup, starts_then a b startup s from, subst (λ (x : Option S). PollsOn seen filling left now startup x) (sym e) polls)
  -- ---- what waits last

module _ {C S A : Type 0} (seen : A → LinkSeen) (conn : C → ConnOf A) (filling : S → FillingOf A) where
  waits_last : (left now : ℕ) (s t : Option S) (last b c : HearingOf C S A) → StartsFrom seen filling s t → c.listening.conn ≡ b.listening.conn → c.startup ≡ b.startup → LastWaits seen conn filling left now t last b → LastWaits seen conn filling left now s last c
  waits_last left now s t last b c from held startup (inl n) = inl (rw held n)
  waits_last left now s t last b c from held startup (inr (inl w)) = inr (inl (rw held w))
  waits_last left now s t last b c from held startup (inr (inr w)) = inr (inr (waits_from seen filling left now s t b.startup c.startup from startup w))

  -- a poll waits behind what nothing was given in
  pub waits_then : (left mid now : ℕ) (a m b c : HearingOf C S A) → HearsBy seen conn a m [] → StartsFrom seen filling a.startup m.startup → mid ≤ left → c.listening.conn ≡ b.listening.conn → c.startup ≡ b.startup → WaitsBy seen conn filling mid now m b → WaitsBy seen conn filling left now a c
  waits_then left mid now a m b c hears from less held startup w = record {
    last = w.last;
    rest = w.rest;
    fewer = omega (arith, w.fewer, less);
    leads = hears_then seen (heard_of seen conn a) (heard_of seen conn m) (heard_of seen conn w.last) [] [] hears w.leads;
    waits = waits_last w.rest now a.startup m.startup w.last b c from held startup w.waits;
  }

  -- ---- what one call of what is held does

  -- the start-up that was there was polled
  pub waits_start : (left now : ℕ) (a b : HearingOf C S A) → PollsOn seen filling left now a.startup b.startup → WaitsBy seen conn filling left now a b
  waits_start left now a b p = record { last = a; rest = left; fewer = omega arith; leads = hears_nothing seen (heard_of seen conn a) (heard_of seen conn a) refl; waits = inr (inr (a.startup, inl refl, p)) }

  -- a statement was
  pub waits_asked : (left now : ℕ) (a b : HearingOf C S A) → OnConn seen conn (λ c d. PollsStatement left c d Pending) a b → WaitsBy seen conn filling left now a b
  waits_asked left now a b p = record { last = a; rest = left; fewer = omega arith; leads = hears_nothing seen (heard_of seen conn a) (heard_of seen conn a) refl; waits = inr (inl p) }

  -- a statement was begun, and polled
  pub waits_begun : (left now : ℕ) (a b : HearingOf C S A) (l : ListeningOf C) → Hears [] (buffers_of seen conn a) (buffers_by conn seen l) [] → OnHeld (λ c d. PollsStatement left c d Pending) conn seen l.conn b.listening.conn
      → WaitsBy seen conn filling left now a b
  waits_begun left now a b l h p = record { last = record a { listening = l }; rest = left; fewer = omega arith; leads = hears_without seen (heard_of seen conn a) (heard_of seen conn (record a { listening = l })) [] refl refl refl refl h; waits = inr (inl p) }
