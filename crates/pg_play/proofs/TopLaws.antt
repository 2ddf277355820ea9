-- How the program ends.
use Rattle.std.proofs.Common.{◌≡◌, List, ℕ, String, Global, Bool, true, false, Result, Ok, Err, IfOk, length, subst, refl, ap, ◌∙◌, codes, inl, inr}
use Rattle.std.specs.Prelude.{IfErr, unwrap_or}
use Rattle.pg_wire.specs.declared.error.Error.{Error}
use Rattle.pg_options.specs.Options.{ConnectOptions}
use Rattle.pg_stream.specs.Links.{LinkPlan, LinkSeen}
use Rattle.pg_stream.specs.Memory.{seen_of, plan_of, untouched}
use Rattle.pg_stream.specs.declared.memory.MemoryLink.{MemoryLink}
use Rattle.pg_script.specs.declared.script.Script.{Script}
use Rattle.pg_script.specs.declared.live.LiveScript.{LiveScript}
use Rattle.pg_auth.specs.Nonce.{nonce_of}
use Rattle.pg_conn.specs.Dials.{DialSeen, IsUncalled}
use Rattle.pg_script.specs.declared.step.Step.{Step}
use Rattle.pg_report.specs.declared.outcome.Outcome.{Outcome}
use Rattle.pg_report.specs.declared.outcome.Started.{Started}
use Rattle.pg_play.specs.Connecting.{options_of}
use Rattle.pg_play.specs.Starts.{Opening, opening_of, StartEnds}
use Rattle.pg_play.specs.Plays.{Plays}
use Rattle.pg_play.specs.declared.played.Played.{Played}
use Rattle.pg_stream.specs.Outside.{SourceSeen, SinkSeen, Sent}
use Rattle.pg_play.specs.declared.ending.Ending.{Ending}
use Rattle.pg_play.specs.declared.ending.Ending.TheVariants as endings
use Rattle.pg_play.specs.Top.{Handing, HasOutcomes, PlaysSteps, IsPlay, IsLivePlay, LiveEndingIs, DialedIs, DialedOnce, plan_said, nonce_said, polls_said, TopIs, RunIs, TellsEnding, Writes, status_of, status_after, played_of, live_of}

sent_by : (own : ℕ) (text : List ℕ) (x y : SinkSeen) (whole : Bool) → Sent x y whole text → Writes own text x y (status_after whole own)
sent_by own text x y true s = inl (s, refl)
sent_by own text x y false s = inr (s, refl)

-- the want of memory is told
pub starved : {A : Type 0} (seen : A → LinkSeen) (hands : Handing A) (words : List (String Global)) (a b : SourceSeen) (x y : SinkSeen) (f g : DialSeen) (whole : Bool) (e : Ending A) → RunIs seen hands words a b f g e → Sent x y whole (codes "out of memory\n") → TopIs seen hands words a b x y f g (status_after whole 5) (played_of e) (live_of e)
starved seen hands words a b x y f g whole e r s = record { ending = e; runs = r; shown = refl; shown_live = refl; written = inr (sent_by 5 (codes "out of memory\n") x y whole s) }

pub ended : {A : Type 0} (seen : A → LinkSeen) (hands : Handing A) (words : List (String Global)) (a b : SourceSeen) (x y : SinkSeen) (f g : DialSeen) (whole : Bool) (e : Ending A) (text : List ℕ) → RunIs seen hands words a b f g e → TellsEnding e text → Sent x y whole text → TopIs seen hands words a b x y f g (status_after whole (status_of e)) (played_of e) (live_of e)
ended seen hands words a b x y f g whole e text r t s = record { ending = e; runs = r; shown = refl; shown_live = refl; written = inl (text, t, sent_by (status_of e) text x y whole s) }

-- ---- what was played

plays_by : (opening : Opening) (polls : ℕ) (first last : LinkSeen) (start : Result Started Error) (steps : List Step) (outs : List Outcome) → IfOk start (λ started. Plays opening polls first last started steps outs) → IfErr start (StartEnds opening polls first last) → PlaysSteps opening polls steps start outs first last
plays_by opening polls first last (Ok started) steps outs h k = h
plays_by opening polls first last (Err e) steps outs h k = k

-- the link is the one that was made
same_plan : (opening : Opening) (polls : ℕ) (first last : LinkSeen) (start : Result Started Error) (steps : List Step) (outs : List Outcome) → PlaysSteps opening polls steps start outs first last → last.plan ≡ first.plan
same_plan opening polls first last (Ok started) steps outs h = h.4.counts.plan
same_plan opening polls first last (Err e) steps outs (inl (is, (s, h))) = h.counts.plan
same_plan opening polls first last (Err e) steps outs (inr (inl (same, h))) = ap (λ (x : LinkSeen). x.plan) same
same_plan opening polls first last (Err e) steps outs (inr (inr (s, h))) = h.counts.plan

plays_same : (o p : ConnectOptions) (n m : List ℕ) (k l : ℕ) (s t : List Step) (x y : LinkSeen) (u v : LinkPlan) (start : Result Started Error) (outs : List Outcome) (last : LinkSeen) → o ≡ p → n ≡ m → k ≡ l → s ≡ t → x ≡ y → u ≡ v
    → PlaysSteps (opening_of o n u) k s start outs x last → PlaysSteps (opening_of p m v) l t start outs y last
plays_same o p n m k l s t x y u v start outs last a b c d e f h = rw (← a, ← b, ← c, ← d, ← e, ← f) h

pub is_play : (script : Script) (p : Played MemoryLink) (link : MemoryLink) (o : ConnectOptions) (nonce : List ℕ) (polls : ℕ) (steps : List Step) → plan_of link ≡ plan_said script → seen_of link ≡ untouched (plan_of link) → o ≡ options_of script → nonce ≡ nonce_said script → polls ≡ polls_said script → steps ≡ script.steps
    → HasOutcomes (length steps) p.start (length p.outcomes) → IfOk p.start (λ started. Plays (opening_of o nonce (plan_of link)) polls (seen_of link) (seen_of p.link) started steps p.outcomes) → IfErr p.start (StartEnds (opening_of o nonce (plan_of link)) polls (seen_of link) (seen_of p.link)) → IsPlay script p
is_play script p link o nonce polls steps made seen e f g d outcomes plays fails =
    let run = plays_by (opening_of o nonce (plan_of link)) polls (seen_of link) (seen_of p.link) p.start steps p.outcomes plays fails in
    record {
      outcomes = subst (λ (x : List Step). HasOutcomes (length x) p.start (length p.outcomes)) d outcomes;
      made = same_plan (opening_of o nonce (plan_of link)) polls (seen_of link) (seen_of p.link) p.start steps p.outcomes run ∙ made;
      plays = plays_same o (options_of script) nonce (nonce_said script) polls (polls_said script) steps script.steps (seen_of link) (untouched (plan_said script)) (plan_of link) (plan_said script) p.start p.outcomes (seen_of p.link) e f g d (seen ∙ ap untouched made) made run;
    }

-- ---- what was played over a link that was dialled

is_live_play : {A : Type 0} (seen : A → LinkSeen) (hands : Handing A) (o : ConnectOptions) (script : LiveScript) (p : Played A) (link : A) (words nonce : List ℕ) (polls : ℕ) (steps : List Step) → hands o link words → IsUncalled (seen link) → length words ≡ 128 → nonce ≡ nonce_of words → polls ≡ unwrap_or script.start_polls 1000 → steps ≡ script.steps
    → HasOutcomes (length steps) p.start (length p.outcomes) → IfOk p.start (λ started. Plays (opening_of o nonce (seen link).plan) polls (seen link) (seen p.link) started steps p.outcomes) → IfErr p.start (StartEnds (opening_of o nonce (seen link).plan) polls (seen link) (seen p.link)) → IsLivePlay seen hands o script p
is_live_play seen hands o script p link words nonce polls steps handed new drawn f g d outcomes plays fails =
    let first = seen link in
    let run = plays_by (opening_of o nonce first.plan) polls first (seen p.link) p.start steps p.outcomes plays fails in
    record {
      link = link;
      words = words;
      handed = handed;
      drawn = drawn;
      uncalled = new;
      outcomes = subst (λ (x : List Step). HasOutcomes (length x) p.start (length p.outcomes)) d outcomes;
      plays = plays_same o o nonce (nonce_of words) polls (unwrap_or script.start_polls 1000) steps script.steps first first first.plan first.plan p.start p.outcomes (seen p.link) refl f g d refl refl run;
    }

live_ends : {A : Type 0} (seen : A → LinkSeen) (hands : Handing A) (o : ConnectOptions) (script : LiveScript) (f g : DialSeen) (p : Played A) (e : Ending A) → IsLivePlay seen hands o script p → LiveEndingIs e p → DialedOnce f g → DialedIs seen hands o script f g e
live_ends seen hands o script f g p (endings.Live q) h (same, low) d = (rw same h, rw same low, d)
live_ends seen hands o script f g p endings.NoMemory h k d = k
live_ends seen hands o script f g p (endings.Played q) h k d = k
live_ends seen hands o script f g p (endings.Sampled q) h k d = k
live_ends seen hands o script f g p (endings.Shown q) h k d = k
live_ends seen hands o script f g p endings.Help h k d = k
live_ends seen hands o script f g p endings.Version h k d = k
live_ends seen hands o script f g p endings.BadWords h k d = k
live_ends seen hands o script f g p (endings.Refused q) h k d = k
live_ends seen hands o script f g p (endings.BadScript q) h k d = k
live_ends seen hands o script f g p endings.ReadFailed h k d = absurd k
live_ends seen hands o script f g p endings.DialFailed h k d = absurd k

pub dialed : {A : Type 0} (seen : A → LinkSeen) (hands : Handing A) (o : ConnectOptions) (script : LiveScript) (f g : DialSeen) (p : Played A) (e : Ending A) (link : A) (words nonce : List ℕ) (polls : ℕ) (steps : List Step) → hands o link words → IsUncalled (seen link) → length words ≡ 128 → nonce ≡ nonce_of words → polls ≡ unwrap_or script.start_polls 1000 → steps ≡ script.steps
    → HasOutcomes (length steps) p.start (length p.outcomes) → IfOk p.start (λ started. Plays (opening_of o nonce (seen link).plan) polls (seen link) (seen p.link) started steps p.outcomes) → IfErr p.start (StartEnds (opening_of o nonce (seen link).plan) polls (seen link) (seen p.link)) → LiveEndingIs e p → DialedOnce f g → DialedIs seen hands o script f g e
dialed seen hands o script f g p e link words nonce polls steps handed new drawn n k s outcomes plays fails ends once =
    live_ends seen hands o script f g p e (is_live_play seen hands o script p link words nonce polls steps handed new drawn n k s outcomes plays fails) ends once
