-- What a poll answers is of the call's kind.
use Rattle.pg_request.specs.declared.naming.Declared.{Declared}
use Rattle.pg_conn.specs.Looking.{AsksFirst, AsksNamed, IsFound, IsUnlooked, LooksAny, LooksFor, LooksBehind, LooksIn, LooksUp, MayLook, holes_for, if_named, lookup_for, named_by, named_in, unlooked, vain_lookup, if_kept, telling}
use Rattle.pg_learning.specs.Naming.{oids_under}
use Rattle.pg_learning.specs.declared.learnt.Learnt.{Learnt}
use Rattle.pg_call.specs.declared.statement.Described.{Described}
use Rattle.pg_call.specs.declared.statement.Extended.{Extended}
use Rattle.std.proofs.lemmas.Option.{same_Some}
use Rattle.std.proofs.Common.{inl, inr, ◌≡◌, ◌≤◌, ◌+◌, ap₂, ℕ, List, [], ◌∷◌, ◌++◌, refl, sym, ap, ◌∙◌, subst, arith, Result, Ok, Err, Option, Some, None, ◌-◌, ◌*◌, nat_eq, cond, length, Bool, true, false, leb, not, ◌&&◌, option_map}
use Rattle.pg_wire.specs.declared.status.TransactionStatus.{TransactionStatus}
use Rattle.pg_wire.specs.Backend.{BackendMessage}
use Rattle.pg_wire.specs.Frame.{Frame}
use Rattle.pg_wire.specs.Frontend.{FrontendMessage}
use Rattle.pg_call.specs.declared.ledger.Ledger.{Ledger}
use Rattle.pg_call.specs.Calls.{CallIs, answer_by}
use Rattle.pg_call.specs.declared.answer.CallItem.{CallItem}
use Rattle.pg_call.specs.declared.answer.CallAnswer.{CallAnswer}
use Rattle.pg_call.specs.declared.answer.CallAnswer.TheVariants as answers
use Rattle.pg_call.specs.declared.request.Request.TheVariants as requests
use Rattle.pg_conn.proofs.CleanupLaws.{room_behind, all_behind, level_none, room_resolved, all_resolved}
use Rattle.futures.specs.declared.task.Poll.{Poll}
use Rattle.futures.specs.declared.task.Poll.TheVariants.{Ready, Pending}
use Rattle.pg_wire.specs.declared.error.ServerFault.{ServerFault}
use Rattle.pg_wire.specs.declared.error.Error.{Error}
use Rattle.pg_wire.specs.declared.error.Error.TheVariants as errors
use Rattle.pg_wire.specs.declared.error.ProtocolFault.TheVariants as protocol
use Rattle.pg_stream.specs.Links.{LinkSeen}
use Rattle.pg_call.specs.declared.kind.Kind.{Kind}
use Rattle.pg_call.specs.declared.kind.Keeping.{Keeping}
use Rattle.pg_call.specs.declared.kind.Keeping.TheVariants as keepings
use Rattle.pg_call.specs.declared.kind.How.TheVariants as hows
use Rattle.pg_call.specs.declared.kind.Kind.TheVariants as kinds
use Rattle.pg_call.specs.declared.request.Request.{Request}
use Rattle.pg_call.specs.declared.answer.Turn.{Turn}
use Rattle.pg_call.specs.declared.answer.Turn.TheVariants as turns
use Rattle.pg_call.specs.declared.calling.Beat.{Beat}
use Rattle.pg_call.specs.declared.calling.Beat.TheVariants as beats
use Rattle.pg_call.specs.Requests.{copy_fail, kind_of, main_kind, spelled, goal_kind, filled_for, filled_bound, numbered_by}
use Rattle.pg_call.specs.Items.{yields}
use Rattle.pg_call.specs.Answers.{TurnFits, AnswerFits, OpensFor, TurnIsPlain}
use Rattle.pg_call.proofs.FitLaws.{shown_fits, answers_main, main_alone, next_is, shows_main}
use Rattle.pg_call.specs.Hearing.{IsOpen}
use Rattle.pg_rule.specs.declared.rule.Rule.{Rule}
use Rattle.pg_conn.specs.Connections.{ConnOf, ConnSeen, Standing, standing, seen_by, started_call, started_next, begun_with, begun_by, handed, is_over, left, commit_of, resolved, resolved_by, restated, rollback_of, runs, cleaned, copies, ends_copy, owned, unfed, with_copy_fail, may_open, has_room_for, with_group, rollback, ended}
use Rattle.pg_conn.specs.Statements.{asked_by, begun_as, moved, unmoved, step_of}
use Rattle.pg_conn.proofs.StatementLaws.{asked_main}
use Rattle.pg_conn.proofs.TurnLaws.{behind_call, unlooks}
use Rattle.pg_call.specs.declared.calling.Call.{Call}
use Rattle.pg_call.specs.declared.calling.Call.TheVariants as calls
use Rattle.pg_conn.specs.Turns.{BeginsBy, HasRoom, TakesBeat, Polled, PollsOn, PollsThrough, HandsOver, PollsBy, PollsWithin, PollsCall, PollsMore, beat_of, HasRoomBeside, HasAllRoom, kept_for, behind, broken_by, HandsNext}
use Rattle.pg_conn.specs.States.{IsCalling, PollFits, turn_of, closing_turn, KeepsConn, PollsClose, IsCallingPlainly, KeepsCalling, KeepsCallingPlainly, KeepsClosing, PollFitsPlainly, ends_call}

-- a call that was started
pub started_calling : {A : Type 0} (r : Request) (c : ConnOf A) → main_kind (begun_as (left c).rule r) ≡ main_kind r → IsCalling (main_kind r) (started_call r c)
started_calling r c k = ((left c).ledger, begun_as (left c).rule r, [], [], [], k, (refl, refl, refl, refl, refl), omega arith)

-- and one that was started behind another
pub next_calling : {A : Type 0} (r : Request) (c : ConnOf A) → main_kind (begun_as (left c).rule r) ≡ main_kind r → IsCalling (main_kind r) (started_next r c)
next_calling r c k = ((left c).ledger, begun_as (left c).rule r, [], [], [], k, (refl, refl, refl, refl, refl), omega arith)

-- what stands as an exchange is of its kind
pub resolved_calls : (kind : Kind) (c : ConnSeen) → IsCalling kind c → IsCalling kind (resolved c)
resolved_calls kind c (start, r, said, hs, items, k, is, room) = by c.call refl
  where
    by : (call : Call) → c.call ≡ call → IsCalling kind (resolved_by call c)
    by (calls.Asked asked) e =
        let i = subst (λ (x : Call). CallIs start r said hs items c.ledger x) e is in
        (start, asked_by c.rule asked, [], [], [], asked_main c.rule asked ∙ ap main_kind i.0 ∙ k, (refl, i.1, refl, refl, refl), omega arith)
    by calls.Idle e = (start, r, said, hs, items, k, is, room)
    by (calls.Waiting w) e = (start, r, said, hs, items, k, is, room)
    by (calls.Own reply) e = (start, r, said, hs, items, k, is, room)
    by calls.Closing e = (start, r, said, hs, items, k, is, room)

-- ---- a call that has begun runs

pub runs_on : (start : Ledger) (r : Request) (said : List FrontendMessage) (hs : List Frame) (items : List CallItem) (ledger : Ledger) (call : Call) → CallIs start r said hs items ledger call → runs call ≡ true
runs_on start r said hs items ledger (calls.Asked asked) i = refl
runs_on start r said hs items ledger (calls.Waiting waiting) i = refl
runs_on start r said hs items ledger (calls.Own reply) i = refl
runs_on start r said hs items ledger calls.Closing i = refl
runs_on start r said hs items ledger calls.Idle i = absurd i

pub calling_runs : {A : Type 0} (kind : Kind) (c : ConnOf A) → IsCalling kind c → runs c.call ≡ true
calling_runs kind c i = runs_on i.0 i.1 i.2 i.3 i.4 c.ledger c.call i.6

-- so its state is not over
pub not_over : {A : Type 0} (kind : Kind) (request : Option Request) (c : ConnOf A) → IsCalling kind (begun_by request c) → is_over request c.call ≡ false
not_over kind (Some request) c i = refl
not_over kind None c i = rw (calling_runs kind c i) refl

-- ---- one exchange

-- this request runs
abbrev Runs : {A : Type 0} → Request → ConnOf A → Type 0
Runs r c = (start : Ledger) × (said : List FrontendMessage) × (hs : List Frame) × (items : List CallItem) × CallIs start r said hs items c.ledger c.call × HasRoom c

-- what a poll of it answers
abbrev Answered : {A : Type 0} → Request → ConnOf A → Poll Turn → Type 0
Answered r c Pending = Runs r c
Answered r c (Ready (turns.Item item)) = (yields (kind_of r) item ≡ true) × Runs r c
Answered r c (Ready (turns.Ok answer)) = (reply : List BackendMessage) × (status : TransactionStatus) × (answer_by r reply status ≡ beats.Ends (Ok answer))
Answered r c (Ready (turns.Err e)) = Unit {0}
Answered r c (Ready (turns.Opened opened)) = (kind_of r ≡ kinds.CopyIn) × IsOpen c.call × Runs r c

answered_beat : (a b : ConnSeen) (r : Request) (answer : Poll Turn) → TakesBeat a b (beat_of answer) → Runs r a → Answered r b answer
answered_beat a b r Pending t i =
    let told = t.3.tells i.0 r i.1 i.2 i.3 i.4 in
    (i.0, i.1 ++ told.0, i.2 ++ t.2, i.3, told.3.0, t.3.room 0 (omega arith) i.5)
answered_beat a b r (Ready (turns.Item item)) t i =
    let told = t.3.tells i.0 r i.1 i.2 i.3 i.4 in
    (shown_fits i.0 r (i.1 ++ told.0) (i.2 ++ t.2) i.3 item b.ledger b.call told.3, (i.0, i.1 ++ told.0, i.2 ++ t.2, i.3 ++ item ∷ [], told.3, t.3.room 0 (omega arith) i.5))
answered_beat a b r (Ready (turns.Ok answer)) t i =
    let told = t.3.tells i.0 r i.1 i.2 i.3 i.4 in
    let fine = told.3.1 in
    (fine.0.reply, fine.0.status, fine.1)
answered_beat a b r (Ready (turns.Err e)) t i = tt
answered_beat a b r (Ready (turns.Opened opened)) t i =
    let told = t.3.tells i.0 r i.1 i.2 i.3 i.4 in
    (told.3.1, told.3.2, (i.0, i.1 ++ told.0, i.2 ++ t.2, i.3, told.3.0, t.3.room 0 (omega arith) i.5))

answered_by : (begun b : ConnSeen) (r : Request) (answer : Poll Turn) → Polled begun b (beat_of answer) → Runs r begun → Answered r b answer
answered_by begun b r answer p i = as_behind p.stopped b r answer p.behind_is (answered_beat begun p.stopped r answer p.turns i)
  where
    as_behind : (s b : ConnSeen) (r : Request) (answer : Poll Turn) → b ≡ behind (beat_of answer) s → Answered r s answer → Answered r b answer
    as_behind s b r Pending e f = subst (λ (c : ConnSeen). Runs r c) (sym e) f
    as_behind s b r (Ready (turns.Item item)) e f = (f.0, subst (λ (c : ConnSeen). Runs r c) (sym e) f.1)
    as_behind s b r (Ready (turns.Ok answer)) e f = f
    as_behind s b r (Ready (turns.Err error)) e f = f
    as_behind s b r (Ready (turns.Opened opened)) e f = subst (λ (c : ConnSeen). (kind_of r ≡ kinds.CopyIn) × IsOpen c.call × Runs r c) (sym e) f

fits_fault : (b : ConnSeen) (kind : Kind) (fault : ServerFault) (answer : Poll Turn) → beat_of answer ≡ beats.Ends (Err (errors.Protocol (protocol.Server fault))) → PollFits kind b answer
fits_fault b kind fault Pending e = absurd cc
fits_fault b kind fault (Ready (turns.Item item)) e = absurd cc
fits_fault b kind fault (Ready (turns.Ok answer)) e = absurd cc
fits_fault b kind fault (Ready (turns.Err error)) e = (tt, tt)
fits_fault b kind fault (Ready (turns.Opened opened)) e = absurd cc

-- ---- a call

runs_call : {A : Type 0} (kind : Kind) (r : Request) (c : ConnOf A) → main_kind r ≡ kind → Runs r c → IsCalling kind c
runs_call kind r c k i = (i.0, r, i.1, i.2, i.3, k, i.4, i.5)

opens_no_description : {kind : Kind} → kind ≡ kinds.CopyIn → kind ≡ kinds.Describe → ⊥
opens_no_description e d = let same : kinds.CopyIn ≡ kinds.Describe = sym e ∙ d in absurd cc

pub opens_main : (kind : Kind) (r : Request) → main_kind r ≡ kind → kind_of r ≡ kinds.CopyIn → OpensFor kind
opens_main kind r k e =
    let main : kinds.CopyIn ≡ kind = sym e ∙ sym (main_alone r (λ d. opens_no_description e d)) ∙ k in
    subst OpensFor main tt

fits_main : (kind : Kind) (r : Request) (b : ConnSeen) (answer : Poll Turn) → main_kind r ≡ kind → Answered r b answer → PollFits kind b answer
fits_main kind r b Pending k f = runs_call kind r b k f
fits_main kind r b (Ready (turns.Item item)) k f = (subst (λ (x : Kind). yields x item ≡ true) k (shows_main r item f.0), runs_call kind r b k f.1)
fits_main kind r b (Ready (turns.Ok answer)) k f = (subst (λ (x : Kind). AnswerFits x answer) k (answers_main r f.0 f.1 answer f.2), tt)
fits_main kind r b (Ready (turns.Err e)) k f = (tt, tt)
fits_main kind r b (Ready (turns.Opened opened)) k f = (opens_main kind r k f.0, (runs_call kind r b k f.2, f.1))

-- the next exchange runs, and is of the call's kind
handed_runs : (r next : Request) (m : ConnSeen) (reply : List BackendMessage) (status : TransactionStatus) → answer_by r reply status ≡ beats.HandsOn next → HasRoom m → Runs next (handed next m) × (main_kind next ≡ main_kind r)
handed_runs r next m reply status e h =
    let is = next_is r reply status next e in
    ((m.ledger, [], [], [], (refl, refl, refl, refl, refl), omega (arith, h)), is.0)

keeps_polled : (begun b : ConnSeen) (beat : Beat) → HasRoom begun → Polled begun b beat → HasRoom b
keeps_polled begun b beat h p = subst (λ (c : ConnSeen). HasRoom c) (sym p.behind_is) (room_behind beat p.stopped (p.turns.3.room 0 (omega arith) h))

handed_beat : (a b : ConnSeen) (r next : Request) → TakesBeat a b (beats.HandsOn next) → Runs r a → (reply : List BackendMessage) × (status : TransactionStatus) × (answer_by r reply status ≡ beats.HandsOn next)
handed_beat a b r next t i =
    let told = t.3.tells i.0 r i.1 i.2 i.3 i.4 in
    let fine = told.3.1 in
    (fine.0.reply, fine.0.status, fine.1)

-- the call that an exchange hands on is of the same kind
pub handed_calls : (begun m : ConnSeen) (kind : Kind) (next : Request) → Polled (resolved begun) m (beats.HandsOn next) → IsCalling kind begun → IsCalling kind (handed next m)
handed_calls begun m kind next p calling =
    let i = resolved_calls kind begun calling in
    let first = handed_beat (resolved begun) p.stopped i.1 next p.turns (i.0, i.2, i.3, i.4, i.6, i.7) in
    let further = handed_runs i.1 next m first.0 first.1 first.2 (keeps_polled (resolved begun) m (beats.HandsOn next) i.7 p) in
    runs_call kind next (handed next m) (further.1 ∙ i.5) further.0

-- what is looked up for a call is of its kind
lookup_main : (told : Request) (text : List ℕ) → main_kind (lookup_for told text) ≡ main_kind told
lookup_main (requests.Describe x) text = refl
lookup_main (requests.Run bound) text = refl
lookup_main _ text = refl

vain_main : (told : Request) → main_kind (vain_lookup told) ≡ main_kind told
vain_main (requests.Run bound) = refl
vain_main (requests.Describe x) = refl
vain_main _ = refl

found_main : (told : Request) (names : List Declared) (looks knows : List ℕ → Request) (b : Learnt) (text : Option (List ℕ)) (next : Request) → ((t : List ℕ) → main_kind (looks t) ≡ main_kind told) → ((oids : List ℕ) → main_kind (knows oids) ≡ main_kind told)
    → IsFound names looks knows b text next → main_kind next ≡ main_kind told
found_main told names looks knows b (Some text) next l k h = ap (λ (r : Request). main_kind r) h ∙ l text
found_main told names looks knows b None next l k h = ap (λ (r : Request). main_kind r) h.1 ∙ k (oids_under b.types names)

any_main : (looked : Bool) (names : List Declared) (told : Request) (looks knows : List ℕ → Request) (a b : Learnt) (next : Request) → ((t : List ℕ) → main_kind (looks t) ≡ main_kind told) → ((oids : List ℕ) → main_kind (knows oids) ≡ main_kind told)
    → LooksAny looked names told looks knows a next b → main_kind next ≡ main_kind told
any_main looked [] told looks knows a b next l k h = ap (λ (r : Request). main_kind r) h.0
any_main looked (name ∷ names) told looks knows a b next l k h = found_main told (name ∷ names) looks knows b h.0 next l k h.2

into_main : (x : Extended) (text : Option (List ℕ)) (m b : Learnt) (next : Request) → LooksBehind x text m next b → main_kind next ≡ goal_kind x.goal
into_main x (Some text) m b next h = ap (λ (r : Request). main_kind r) h.0
into_main x None m b next h =
    any_main false (holes_for x.goal x.arguments) (requests.Describe (telling m x)) (λ (text : List ℕ). requests.Describe (record (telling m x) { filling = Some text })) (λ (oids : List ℕ). requests.Describe (filled_for oids (telling m x))) m b next (λ t. refl) (λ oids. refl) h

looks_main : (told next : Request) (a b : Learnt) → LooksUp told a next b → main_kind next ≡ main_kind told
looks_main told next a b (inr h) = ap (λ (r : Request). main_kind r) h.1 ∙ vain_main told
looks_main told next a b (inl h) = by told h
  where
    for : (x : Extended) (d : Option Described) → LooksFor x d a next b → main_kind next ≡ goal_kind x.goal
    for x None h = any_main x.is_looked_up x.arguments.names (requests.Describe x) (lookup_for (requests.Describe x)) (λ (oids : List ℕ). requests.Describe (numbered_by oids x)) a b next (λ t. refl) (λ oids. refl) h
    for x (Some d) (text, m, seeks, h) = into_main x text m b next h

    by : (told : Request) → LooksIn told a next b → main_kind next ≡ main_kind told
    by (requests.Describe x) h = for x x.described h
    by (requests.Run bound) h =
        any_main bound.is_looked_up bound.arguments.holes (requests.Run bound) (lookup_for (requests.Run bound)) (λ (oids : List ℕ). requests.Run (filled_bound oids bound)) a b next (λ t. refl) (λ oids. refl) h
    by _ h = ap (λ (r : Request). main_kind r) h.0

pub looked_calls : (kind : Kind) (b : ConnSeen) (told next : Request) (learnt : Learnt) → LooksUp told b.learnt next learnt → IsCalling kind (handed told b) → IsCalling kind (handed next (record b { learnt = learnt }))
looked_calls kind b told next learnt u (start, r, said, hs, items, k, is, room) =
    (start, next, said, hs, items, looks_main told next b.learnt learnt u ∙ ap (λ (q : Request). main_kind q) is.0 ∙ k, (refl, is.1, is.2, is.3, is.4), room)

-- what each exchange keeps that hands on the next one, and what is looked up before that
pub hands_keep : (P : ConnSeen → Type 0) → ((a b : ConnSeen) (told : Request) → Polled (resolved a) b (beats.HandsOn told) → P a → P (handed told b))
    → ((b : ConnSeen) (told next : Request) (learnt : Learnt) → LooksUp told b.learnt next learnt → P (handed told b) → P (handed next (record b { learnt = learnt })))
    → (later : List Request) (begun last : ConnSeen) → HandsOver begun later last → P begun → P last
hands_keep P on asks [] begun last h i = subst P (sym h) i
hands_keep P on asks (next ∷ later) begun last (c, (told, between, p, (learnt, u, is)), h) i =
    hands_keep P on asks later c last h (subst P (sym is) (asks between told next learnt u (on begun between told p i)))

-- what has names that are looked up is what is asked first
pub named_told : (r told : Request) (names : List Declared) (d : Option Described) → if_named r names d ≡ Some told → r ≡ told
named_told r told [] d e = absurd cc
named_told r told (name ∷ names) None e = same_Some r told e
named_told r told (name ∷ names) (Some d) e = absurd cc

pub named_asked : (c : Call) (told : Request) → named_by c ≡ Some told → c ≡ calls.Asked told
named_asked c told e = by c e
  where
    asked : (r : Request) → named_in r ≡ Some told → r ≡ told
    asked (requests.Describe y) e = named_told (requests.Describe y) told y.arguments.names y.described e
    asked (requests.Run bound) e = kept bound.keeping e
      where
        kept : (keeping : Keeping) → if_kept keeping bound ≡ Some told → requests.Run bound ≡ told
        kept (keepings.Hits number) e = named_told (requests.Run bound) told bound.arguments.holes None e
        kept keepings.Stays e = absurd cc
        kept keepings.Draws e = absurd cc
        kept keepings.Puts e = absurd cc
        kept keepings.Evicts e = absurd cc
        kept keepings.Clears e = absurd cc
    asked _ e = absurd cc

    by : (call : Call) → named_by call ≡ Some told → call ≡ calls.Asked told
    by (calls.Asked r) e = ap (λ (q : Request). calls.Asked q) (asked r e)
    by _ e = absurd cc

-- what is kept as a call's first exchange stands, and what is looked up before it
pub first_keeps : (P : ConnSeen → Type 0) → ((c : ConnSeen) → P c → P (resolved c))
    → ((b : ConnSeen) (told next : Request) (learnt : Learnt) → LooksUp told b.learnt next learnt → P (handed told b) → P (handed next (record b { learnt = learnt })))
    → (begun first : ConnSeen) → AsksFirst begun first → P begun → P first
first_keeps P stands asks begun first h i = by (named_by (resolved begun).call) refl h
  where
    by : (o : Option Request) → named_by (resolved begun).call ≡ o → AsksNamed o begun first → P first
    by None e h = subst P (sym h) i
    by (Some told) e (can, (next, (learnt, looks, is))) =
        let now = subst (λ (call : Call). P (record (resolved begun) { call = call })) (named_asked (resolved begun).call told e) (stands begun i) in
        subst P (sym is) (asks (resolved begun) told next learnt looks now)

-- the same, where it may be refused before that
pub begins_keep : (P : ConnSeen → Type 0) → ((c : ConnSeen) → P c → P (resolved c))
    → ((b : ConnSeen) (told next : Request) (learnt : Learnt) → LooksUp told b.learnt next learnt → P (handed told b) → P (handed next (record b { learnt = learnt })))
    → (begun first b : ConnSeen) (answer : Poll Turn) → BeginsBy begun first b answer → P begun → P first
begins_keep P stands asks begun first b answer (inl h) i = first_keeps P stands asks begun first h i
begins_keep P stands asks begun first b answer (inr (same, refuses)) i = subst P (sym same) i

-- one more exchange ended, and handed on the next one
pub hands_more : (later : List Request) (begun now c : ConnSeen) (next : Request) → HandsOver begun later now → HandsNext now next c → HandsOver begun (later ++ next ∷ []) c
hands_more [] begun now c next h p = (c, subst (λ (x : ConnSeen). HandsNext x next c) h p, refl)
hands_more (one ∷ later) begun now c next h p = (h.0, h.1, hands_more later h.0 now c next h.2 p)

-- a lookup isn't asked where this was handed on, and the call is over
pub unasked_lookup : (told : Request) (a b : Learnt) → MayLook told → b.types ≡ a.types → b.tables ≡ a.tables → LooksUp told a (vain_lookup told) b
unasked_lookup told a b may types tables = inr (may, refl, types, tables)

pub fails_looking : (begun now between m b : ConnSeen) (later : List Request) (told : Request) (e : Error) → HandsOver begun later now → Polled (resolved now) between (beats.HandsOn told) → between.broken ≡ None → MayLook told → IsUnlooked told between m e → b ≡ unlooked m
    → PollsOn begun b (Ready (turns.Err e))
fails_looking begun now between m b later told e hands polled whole may (same, types, tables, cause) is =
    let next = vain_lookup told in
    let c = handed next (record between { learnt = m.learnt }) in
    record {
      later = later ++ next ∷ [];
      last = c;
      hands = hands_more later begun now c next hands (told, between, polled, (m.learnt, unasked_lookup told between.learnt m.learnt may types tables, refl));
      polled = unlooks (record between { learnt = m.learnt }) b told e whole may cause (is ∙ ap (λ (d : ConnSeen). unlooked d) same);
    }

-- the call of the exchange that came last is of the same kind
pub last_calls : (kind : Kind) (later : List Request) (begun last : ConnSeen) → HandsOver begun later last → IsCalling kind begun → IsCalling kind last
last_calls kind later begun last h i = hands_keep (λ (c : ConnSeen). IsCalling kind c) (λ a b next p k. handed_calls a b kind next p k) (looked_calls kind) later begun last h i

pub first_calls : (kind : Kind) (begun first b : ConnSeen) (answer : Poll Turn) → BeginsBy begun first b answer → IsCalling kind begun → IsCalling kind first
first_calls kind begun first b answer h i = begins_keep (λ (c : ConnSeen). IsCalling kind c) (resolved_calls kind) (looked_calls kind) begun first b answer h i

fits_through : (begun b : ConnSeen) (kind : Kind) (answer : Poll Turn) → PollsOn begun b answer → IsCalling kind begun → PollFits kind b answer
fits_through begun b kind answer p i =
    let k = resolved_calls kind p.last (last_calls kind p.later begun p.last p.hands i) in
    fits_main kind k.1 b answer k.5 (answered_by (resolved p.last) b k.1 answer p.polled (k.0, k.2, k.3, k.4, k.6, k.7))

fits_by : (o : Option ServerFault) (begun a b : ConnSeen) (kind : Kind) (answer : Poll Turn) → PollsBy o begun a b answer → IsCalling kind begun → PollFits kind b answer
fits_by None begun a b kind answer p i = fits_through p.0 b kind answer p.2 (first_calls kind begun p.0 b answer p.1 i)
fits_by (Some fault) begun a b kind answer p i = fits_fault b kind fault answer p.1

-- over a link
unseen : {A : Type 0} (seen : A → LinkSeen) (b : ConnOf A) (kind : Kind) (answer : Poll Turn) → PollFits kind (seen_by seen b) answer → PollFits kind b answer
unseen seen b kind Pending f = f
unseen seen b kind (Ready (turns.Item item)) f = f
unseen seen b kind (Ready (turns.Ok answer)) f = f
unseen seen b kind (Ready (turns.Err e)) f = f
unseen seen b kind (Ready (turns.Opened opened)) f = f

pub poll_fits_within : {A : Type 0} (seen : A → LinkSeen) (calls : ℕ) (a b : ConnOf A) (kind : Kind) (answer : Poll Turn) → PollsWithin calls (seen_by seen a) (seen_by seen b) answer → IsCalling kind a → PollFits kind b answer
poll_fits_within seen calls a b kind answer p i = unseen seen b kind answer (fits_by a.broken (begun_with calls (seen_by seen a)) (seen_by seen a) (seen_by seen b) kind answer p i)

pub poll_fits : {A : Type 0} (seen : A → LinkSeen) (a b : ConnOf A) (kind : Kind) (answer : Poll Turn) → PollsCall (seen_by seen a) (seen_by seen b) answer → IsCalling kind a → PollFits kind b answer
poll_fits seen a b kind answer p i = poll_fits_within seen 256 a b kind answer p i

pub more_fits : {A : Type 0} (seen : A → LinkSeen) (a b : ConnOf A) (kind : Kind) (answer : Poll Turn) → PollsMore (seen_by seen a) (seen_by seen b) answer → IsCalling kind a → PollFits kind b answer
more_fits seen a b kind answer p i = unseen seen b kind answer (fits_by a.broken (seen_by seen a) (seen_by seen a) (seen_by seen b) kind answer p i)

-- ---- whether a poll ends the call

-- no call runs behind an end
abbrev Rests : Call → Poll Turn → Type 0
Rests call Pending = Unit {0}
Rests call (Ready (turns.Item item)) = Unit {0}
Rests call (Ready (turns.Opened opened)) = Unit {0}
Rests call (Ready (turns.Ok answer)) = call ≡ calls.Idle
Rests call (Ready (turns.Err e)) = call ≡ calls.Idle

rests_beat : (a b : ConnSeen) (r : Request) (answer : Poll Turn) → TakesBeat a b (beat_of answer) → Runs r a → Rests b.call answer
rests_beat a b r Pending t i = tt
rests_beat a b r (Ready (turns.Item item)) t i = tt
rests_beat a b r (Ready (turns.Opened opened)) t i = tt
rests_beat a b r (Ready (turns.Ok answer)) t i = let told = t.3.tells i.0 r i.1 i.2 i.3 i.4 in told.3.0
rests_beat a b r (Ready (turns.Err e)) t i = let told = t.3.tells i.0 r i.1 i.2 i.3 i.4 in told.3.0

rests_polled : (begun b : ConnSeen) (r : Request) (answer : Poll Turn) → Polled begun b (beat_of answer) → Runs r begun → Rests b.call answer
rests_polled begun b r answer p i =
    subst (λ (x : Call). Rests x answer) (sym (ap (λ (c : ConnSeen). c.call) p.behind_is ∙ behind_call (beat_of answer) p.stopped)) (rests_beat begun p.stopped r answer p.turns i)

rests_at_once : (call : Call) (answer : Poll Turn) → call ≡ calls.Idle → Rests call answer
rests_at_once call Pending e = tt
rests_at_once call (Ready (turns.Item item)) e = tt
rests_at_once call (Ready (turns.Opened opened)) e = tt
rests_at_once call (Ready (turns.Ok answer)) e = e
rests_at_once call (Ready (turns.Err error)) e = e

rests_by : (o : Option ServerFault) (begun a b : ConnSeen) (kind : Kind) (answer : Poll Turn) → PollsBy o begun a b answer → IsCalling kind begun → Rests b.call answer
rests_by None begun a b kind answer (first, asks, p) i =
    let k = resolved_calls kind p.last (last_calls kind p.later first p.last p.hands (first_calls kind begun first b answer asks i)) in
    rests_polled (resolved p.last) b k.1 answer p.polled (k.0, k.2, k.3, k.4, k.6, k.7)
rests_by (Some fault) begun a b kind answer p i = rests_at_once b.call answer (ap (λ (c : ConnSeen). c.call) p.0)

over_behind : {A : Type 0} (b : ConnOf A) (kind : Kind) (answer : Poll Turn) → PollFits kind b answer → Rests b.call answer → not (runs b.call) ≡ ends_call answer
over_behind b kind Pending f r = rw (calling_runs kind b f) refl
over_behind b kind (Ready (turns.Item item)) f r = rw (calling_runs kind b f.1) refl
over_behind b kind (Ready (turns.Opened opened)) f r = rw (calling_runs kind b f.1.0) refl
over_behind b kind (Ready (turns.Ok answer)) f r = rw r refl
over_behind b kind (Ready (turns.Err e)) f r = rw r refl

-- the state of a call is over exactly where its poll ended the call
pub poll_ends : {A : Type 0} (seen : A → LinkSeen) (a b : ConnOf A) (kind : Kind) (answer : Poll Turn) → PollsCall (seen_by seen a) (seen_by seen b) answer → IsCalling kind a → not (runs b.call) ≡ ends_call answer
poll_ends seen a b kind answer p i = over_behind b kind answer (poll_fits seen a b kind answer p i) (rests_by a.broken (begun_with 256 (seen_by seen a)) (seen_by seen a) (seen_by seen b) kind answer p i)

-- ---- what the state of a call keeps

answer_stands : (kind : Kind) (answer : CallAnswer) → ((AnswerFits kind answer → ⊥) → ⊥) → AnswerFits kind answer
answer_stands (kinds.Run hows.Execute) (answers.Total total) n = tt
answer_stands (kinds.Run hows.FetchAll) (answers.Rows rows) n = tt
answer_stands (kinds.Run hows.FetchOptional) (answers.OneRow row) n = tt
answer_stands (kinds.Run hows.FetchOne) (answers.OneRow (Some row)) n = tt
answer_stands (kinds.Run hows.ExecuteMany) answers.Unit n = tt
answer_stands (kinds.Run hows.Fetch) answers.Unit n = tt
answer_stands (kinds.Run hows.FetchMany) answers.Unit n = tt
answer_stands kinds.Prepare (answers.Statement prepared) n = tt
answer_stands kinds.Clear answers.Unit n = tt
answer_stands kinds.Begin answers.Unit n = tt
answer_stands kinds.Commit answers.Unit n = tt
answer_stands kinds.Rollback answers.Unit n = tt
answer_stands kinds.Ping answers.Unit n = tt
answer_stands kinds.Flush answers.Unit n = tt
answer_stands kinds.Close answers.Unit n = tt
answer_stands kinds.CopyOut answers.Unit n = tt
answer_stands kinds.CopyIn (answers.Total total) n = tt
answer_stands _ _ n = n (λ x. x)

test_stands : (a b : Bool) → ((a ≡ b → ⊥) → ⊥) → a ≡ b
test_stands true true n = refl
test_stands false false n = refl
test_stands true false n = absurd (n (λ e. cc))
test_stands false true n = absurd (n (λ e. cc))

opens_stands : (kind : Kind) → ((OpensFor kind → ⊥) → ⊥) → OpensFor kind
opens_stands kinds.CopyIn n = tt
opens_stands _ n = n (λ x. x)

-- that a turn fits is so where it can't be otherwise
turn_stands : (kind : Kind) (turn : Turn) → ((TurnFits kind turn → ⊥) → ⊥) → TurnFits kind turn
turn_stands kind (turns.Item item) n = test_stands (yields kind item) true n
turn_stands kind (turns.Ok answer) n = answer_stands kind answer n
turn_stands kind (turns.Err e) n = tt
turn_stands kind (turns.Opened opened) n = opens_stands kind n

still_calling : {A : Type 0} (kind : Kind) (b : ConnOf A) (answer : Poll Turn) → PollFits kind b answer → not (runs b.call) ≡ ends_call answer → not (runs b.call) ≡ false → IsCalling kind b
still_calling kind b Pending f e r = f
still_calling kind b (Ready (turns.Item item)) f e r = f.1
still_calling kind b (Ready (turns.Opened opened)) f e r = f.1.0
still_calling kind b (Ready (turns.Ok answer)) f e r = absurd cc
still_calling kind b (Ready (turns.Err error)) f e r = absurd cc

-- its request as the state holds it
own_request : (request : Option Request) → option_map (λ (r : Request). r) request ≡ request
own_request None = refl
own_request (Some r) = refl

-- so what is kept of the one is kept of the other
pub mapped_keeps : {A : Type 0} (kind : Kind) (request : Option Request) (c : ConnOf A) → KeepsCalling kind request c → KeepsCalling kind (option_map (λ (r : Request). r) request) c
mapped_keeps kind request c k = subst (λ (x : Option Request). KeepsCalling kind x c) (sym (own_request request)) k

pub own_keeps : {A : Type 0} (kind : Kind) (request : Option Request) (c : ConnOf A) → KeepsCalling kind (option_map (λ (r : Request). r) request) c → KeepsCalling kind request c
own_keeps kind request c k = subst (λ (x : Option Request). KeepsCalling kind x c) (own_request request) k

-- a state that was never polled
pub started_keeps : {A : Type 0} (r : Request) (c : ConnOf A) → main_kind (begun_as (left c).rule r) ≡ main_kind r → KeepsCalling (main_kind r) (Some r) c
started_keeps r c k over denies = denies (started_calling r c k)

-- one that is polled on a, and leaves b
module _ {A : Type 0} (kind : Kind) (request : Option Request) (a b : ConnOf A) (keeps : KeepsCalling kind (option_map (λ (r : Request). r) request) a) (over : is_over request a.call ≡ false) where
  refuted : (IsCalling kind (begun_by request a) → ⊥) → ⊥
  refuted = subst (λ (x : Option Request). KeepsCalling kind x a) (own_request request) keeps over

  -- what the poll answers is of the call's kind
  pub kept_fits : (turn : Turn) → (IsCalling kind (begun_by request a) → PollFits kind b (Ready turn)) → TurnFits kind turn
  kept_fits turn fits = turn_stands kind turn (λ denies. refuted (λ i. denies (fits i).0))

  -- it is over exactly where the poll ended the call
  pub kept_over : (seen : A → LinkSeen) (behind : Option Request) (answer : Poll Turn) → behind ≡ None → PollsCall (seen_by seen (begun_by request a)) (seen_by seen b) answer → is_over behind b.call ≡ ends_call answer
  kept_over seen behind answer e p = rw e (test_stands (not (runs b.call)) (ends_call answer) (λ denies. refuted (λ i. denies (poll_ends seen (begun_by request a) b kind answer p i))))

  -- and it keeps what it kept
  pub kept_behind : (seen : A → LinkSeen) (behind : Option Request) (answer : Poll Turn) → behind ≡ None → PollsCall (seen_by seen (begun_by request a)) (seen_by seen b) answer → KeepsCalling kind (option_map (λ (r : Request). r) behind) b
  kept_behind seen behind answer e p = rw e (λ r denies. refuted (λ i. denies (still_calling kind b answer (poll_fits seen (begun_by request a) b kind answer p i) (poll_ends seen (begun_by request a) b kind answer p i) r)))

-- a close, whose connection is a
pub closing_keeps : {A : Type 0} (request : Option Request) (conn : Option (ConnOf A)) (a : ConnOf A) → conn ≡ Some a → KeepsClosing request conn → KeepsCalling kinds.Close (option_map (λ (r : Request). r) request) a
closing_keeps {A} request conn a e k = mapped_keeps kinds.Close request a (subst (λ (x : Option (ConnOf A)). KeepsClosing request x) e k)

pub keeps_closing : {A : Type 0} (request : Option Request) (b : ConnOf A) → KeepsCalling kinds.Close (option_map (λ (r : Request). r) request) b → KeepsClosing request (Some b)
keeps_closing request b k = own_keeps kinds.Close request b k

-- whose connection was handed out
pub handed_out : {A : Type 0} (request : Option Request) (conn : Option (ConnOf A)) → conn ≡ None → KeepsClosing request conn
handed_out {A} request conn e = subst (λ (x : Option (ConnOf A)). KeepsClosing request x) (sym e) (λ closed denies. absurd cc)

-- ---- the calls of the link that are left

left_restated : (c : ConnSeen) → (restated c).stream.left ≡ c.stream.left
left_restated c = by (nat_eq c.groups 0)
  where
    by : (b : Bool) → (cond b (record c { rule = unmoved c.keeping c.rule }) (record c { rule = moved c.keeping c.rule; cache = step_of c.keeping c.cache })).stream.left ≡ c.stream.left
    by true = refl
    by false = refl

left_cleaned : (c : ConnSeen) → (cleaned c).stream.left ≡ c.stream.left
left_cleaned c = by (may_open c.change c.groups c.rule.depth) (has_room_for (spelled (rollback 0)) (restated c)) ∙ left_restated c
  where
    by : (m h : Bool) → (ended (cond m (cond h (with_group (spelled (rollback 0)) (restated c)) (restated c)) (restated c))).stream.left ≡ (restated c).stream.left
    by false h = refl
    by true false = refl
    by true true = refl

left_resolved : (c : ConnSeen) → (resolved c).stream.left ≡ c.stream.left
left_resolved c = by c.call
  where
    by : (call : Call) → (resolved_by call c).stream.left ≡ c.stream.left
    by (calls.Asked r) = refl
    by calls.Idle = refl
    by (calls.Waiting w) = refl
    by (calls.Own reply) = refl
    by calls.Closing = refl

left_unfed : (over : Bool) (c : ConnSeen) → (unfed over c).stream.left ≡ c.stream.left
left_unfed over c = by (copies c.change c.groups && (not over && leb (length (spelled (copy_fail ∷ []))) c.stream.spare))
  where
    by : (b : Bool) → (cond b (with_copy_fail c) (owned c)).stream.left ≡ c.stream.left
    by true = refl
    by false = refl

left_behind : (beat : Beat) (c : ConnSeen) → (behind beat c).stream.left ≡ c.stream.left
left_behind (beats.Ends (Ok answer)) c = refl
left_behind (beats.HandsOn next) c = refl
left_behind (beats.Ends (Err e)) c =
    let d : ConnSeen = record c { broken = broken_by (beats.Ends (Err e)) } in
    left_cleaned (unfed (ends_copy e) d) ∙ left_unfed (ends_copy e) d
left_behind beats.More c = refl
left_behind beats.Waits c = refl
left_behind (beats.Yields item) c = refl
left_behind (beats.Opens opened) c = refl

left_polled : (a b : ConnSeen) (beat : Beat) → Polled a b beat → b.stream.left ≤ a.stream.left
left_polled a b beat p = omega (arith, ap (λ (c : ConnSeen). c.stream.left) p.behind_is, left_behind beat p.stopped, p.turns.3.moves.left)

-- a poll takes calls off, and adds none
pub left_through : (begun b : ConnSeen) (answer : Poll Turn) → PollsThrough begun b answer → b.stream.left ≤ begun.stream.left
left_through begun b answer (now, asks, p) =
    let first = begins_keep (λ (c : ConnSeen). c.stream.left ≤ begun.stream.left) (λ c l. omega (arith, l, left_resolved c)) (λ b told next learnt u l. l) begun now b answer asks (omega arith) in
    let last = hands_keep (λ (c : ConnSeen). c.stream.left ≤ begun.stream.left) (λ a m next q l. omega (arith, l, left_polled (resolved a) m (beats.HandsOn next) q, left_resolved a)) (λ b told next learnt u l. l) p.later now p.last p.hands first in
    omega (arith, last, left_polled (resolved p.last) b (beat_of answer) p.polled, left_resolved p.last)

-- ---- the room for cleanup

room_handed : (a b : ConnSeen) (next : Request) → Polled (resolved a) b (beats.HandsOn next) → HasRoom a → HasRoom (handed next b)
room_handed a b next p h = omega (arith, keeps_polled (resolved a) b (beats.HandsOn next) (room_resolved a h) p)

pub keeps_room : (left : ℕ) (a b : ConnSeen) (answer : Poll Turn) → HasRoom a → PollsWithin left a b answer → HasRoom b
keeps_room left a b answer h p = by a.broken p
  where
    by : (o : Option ServerFault) → PollsBy o (begun_with left a) a b answer → HasRoom b
    by None (now, asks, p) =
        let first = begins_keep (λ (c : ConnSeen). HasRoom c) room_resolved (λ b told next learnt u h. h) (begun_with left a) now b answer asks h in
        keeps_polled (resolved p.last) b (beat_of answer) (room_resolved p.last (hands_keep (λ (c : ConnSeen). HasRoom c) room_handed (λ b told next learnt u h. h) p.later now p.last p.hands first)) p.polled
    by (Some fault) p = subst (λ (c : ConnSeen). HasRoom c) (sym p.0) (omega (arith, h, level_none a.groups))

-- what no beat changes keeps the same room
pub same_kept : (a b : ConnSeen) → b.rule ≡ a.rule → standing b ≡ standing a → kept_for a ≡ kept_for b
same_kept a b r s = ap₂ (λ (x : Rule) (y : Standing). 64 * x.depth + 64 * y.held) (sym r) (sym s)

keeps_all_polled : (begun b : ConnSeen) (beat : Beat) → HasAllRoom begun → Polled begun b beat → HasAllRoom b
keeps_all_polled begun b beat h p =
    let kept : HasAllRoom p.stopped = subst (λ (n : ℕ). HasRoomBeside n p.stopped) (same_kept begun p.stopped p.turns.3.started.2 p.turns.3.started.3) (p.turns.3.room (kept_for begun) (omega arith) h) in
    subst (λ (c : ConnSeen). HasAllRoom c) (sym p.behind_is) (all_behind beat p.stopped kept)

all_handed : (a b : ConnSeen) (next : Request) → Polled (resolved a) b (beats.HandsOn next) → HasAllRoom a → HasAllRoom (handed next b)
all_handed a b next p h = omega (arith, keeps_all_polled (resolved a) b (beats.HandsOn next) (all_resolved a h) p)

pub keeps_all_room : (left : ℕ) (a b : ConnSeen) (answer : Poll Turn) → HasAllRoom a → PollsWithin left a b answer → HasAllRoom b
keeps_all_room left a b answer h p = by a.broken p
  where
    by : (o : Option ServerFault) → PollsBy o (begun_with left a) a b answer → HasAllRoom b
    by None (now, asks, p) =
        let first = begins_keep (λ (c : ConnSeen). HasAllRoom c) all_resolved (λ b told next learnt u h. h) (begun_with left a) now b answer asks h in
        keeps_all_polled (resolved p.last) b (beat_of answer) (all_resolved p.last (hands_keep (λ (c : ConnSeen). HasAllRoom c) all_handed (λ b told next learnt u h. h) p.later now p.last p.hands first)) p.polled
    by (Some fault) p = subst (λ (c : ConnSeen). HasAllRoom c) (sym p.0) (omega (arith, h, level_none a.groups))

pub starts_with_room : (a : ConnSeen) (request : Request) → HasRoom (started_call request a)
starts_with_room a request = omega arith

-- ---- a close

pub closes_by : {A : Type 0} (seen : A → LinkSeen) (a a' b : ConnOf A) (r r' : Option Request) (new : Option (ConnOf A)) (answer : Poll (Result A Error)) → r ≡ r' → a ≡ a' → PollsCall (seen_by seen (begun_by r a)) (seen_by seen b) (turn_of closing_turn answer)
    → (IsCalling kinds.Close (begun_by r a) → PollFits kinds.Close b (turn_of closing_turn answer)) → KeepsConn b new answer → PollsClose seen (begun_by r' a') new answer
closes_by seen a a' b r r' new answer e f polls fits keeps = rw (← e, ← f) (b, polls, fits, keeps)

-- ---- a call without items and without an answer of its own

plain_answer : (kind : Kind) (answer : CallAnswer) → TurnIsPlain kind → AnswerFits kind answer → AnswerFits kinds.Flush answer
plain_answer (kinds.Run how) answer p f = absurd p
plain_answer kinds.Describe answer p f = absurd p
plain_answer kinds.CopyOut answer p f = absurd p
plain_answer kinds.CopyIn answer p f = absurd p
plain_answer kind answers.Unit p f = tt
plain_answer kinds.Prepare answer p f = absurd p
plain_answer kinds.Clear (answers.Total total) p f = absurd f
plain_answer kinds.Clear (answers.Rows rows) p f = absurd f
plain_answer kinds.Clear (answers.OneRow row) p f = absurd f
plain_answer kinds.Clear (answers.Statement prepared) p f = absurd f
plain_answer kinds.Begin (answers.Statement prepared) p f = absurd f
plain_answer kinds.Commit (answers.Statement prepared) p f = absurd f
plain_answer kinds.Rollback (answers.Statement prepared) p f = absurd f
plain_answer kinds.Ping (answers.Statement prepared) p f = absurd f
plain_answer kinds.Close (answers.Statement prepared) p f = absurd f
plain_answer kinds.Begin (answers.Total total) p f = absurd f
plain_answer kinds.Begin (answers.Rows rows) p f = absurd f
plain_answer kinds.Begin (answers.OneRow row) p f = absurd f
plain_answer kinds.Commit (answers.Total total) p f = absurd f
plain_answer kinds.Commit (answers.Rows rows) p f = absurd f
plain_answer kinds.Commit (answers.OneRow row) p f = absurd f
plain_answer kinds.Rollback (answers.Total total) p f = absurd f
plain_answer kinds.Rollback (answers.Rows rows) p f = absurd f
plain_answer kinds.Rollback (answers.OneRow row) p f = absurd f
plain_answer kinds.Ping (answers.Total total) p f = absurd f
plain_answer kinds.Ping (answers.Rows rows) p f = absurd f
plain_answer kinds.Ping (answers.OneRow row) p f = absurd f
plain_answer kinds.Flush answer p f = f
plain_answer kinds.Close (answers.Total total) p f = absurd f
plain_answer kinds.Close (answers.Rows rows) p f = absurd f
plain_answer kinds.Close (answers.OneRow row) p f = absurd f

plain_item : (kind : Kind) (item : CallItem) → TurnIsPlain kind → yields kind item ≡ true → yields kinds.Flush item ≡ true
plain_item (kinds.Run how) item p f = absurd p
plain_item kinds.Describe item p f = absurd p
plain_item kinds.Prepare item p f = absurd p
plain_item kinds.Clear item p f = absurd cc
plain_item kinds.Begin item p f = absurd cc
plain_item kinds.Commit item p f = absurd cc
plain_item kinds.Rollback item p f = absurd cc
plain_item kinds.CopyOut item p f = absurd p
plain_item kinds.CopyIn item p f = absurd p
plain_item kinds.Ping item p f = absurd cc
plain_item kinds.Flush item p f = f
plain_item kinds.Close item p f = absurd cc

plain_opens_none : (kind : Kind) → TurnIsPlain kind → OpensFor kind → ⊥
plain_opens_none (kinds.Run how) p f = f
plain_opens_none kinds.CopyIn p f = p
plain_opens_none _ p f = f

pub plain_fits : (kind : Kind) (turn : Turn) → TurnIsPlain kind → TurnFits kind turn → TurnFits kinds.Flush turn
plain_fits kind (turns.Item item) p f = plain_item kind item p f
plain_fits kind (turns.Ok answer) p f = plain_answer kind answer p f
plain_fits kind (turns.Err e) p f = tt
plain_fits kind (turns.Opened opened) p f = absurd (plain_opens_none kind p f)

-- what a commit and a rollback ask where so many are open
pub commit_calls : {A : Type 0} (depth : ℕ) (c : ConnOf A) → IsCallingPlainly (begun_by (Some (commit_of depth)) c)
commit_calls {A} depth c = by (nat_eq depth 0)
  where
    by : (b : Bool) → IsCallingPlainly (begun_by (Some (cond b requests.Flush (requests.Commit (depth - 1)))) c)
    by true = (kinds.Flush, tt, started_calling requests.Flush c refl)
    by false = (kinds.Commit, tt, started_calling (requests.Commit (depth - 1)) c refl)

pub rollback_calls : {A : Type 0} (depth : ℕ) (c : ConnOf A) → IsCallingPlainly (begun_by (Some (rollback_of depth)) c)
rollback_calls {A} depth c = by (nat_eq depth 0)
  where
    by : (b : Bool) → IsCallingPlainly (begun_by (Some (cond b requests.Flush (requests.Rollback (depth - 1)))) c)
    by true = (kinds.Flush, tt, started_calling requests.Flush c refl)
    by false = (kinds.Rollback, tt, started_calling (requests.Rollback (depth - 1)) c refl)

-- and what is asked where what is kept is to be closed
pub clear_calls : {A : Type 0} (c : ConnOf A) → IsCallingPlainly (begun_by (Some (requests.Clear [])) c)
clear_calls {A} c = by (nat_eq (length (left c).rule.cache.entries) 0) refl
  where
    by : (b : Bool) → nat_eq (length (left c).rule.cache.entries) 0 ≡ b → IsCallingPlainly (begun_by (Some (requests.Clear [])) c)
    by true e = (kinds.Flush, tt, ((left c).ledger, begun_as (left c).rule (requests.Clear []), [], [], [], rw e refl, (refl, refl, refl, refl, refl), omega arith))
    by false e = (kinds.Clear, tt, started_calling (requests.Clear []) c (rw e refl))

pub mapped_plainly : {A : Type 0} (request : Option Request) (c : ConnOf A) → KeepsCallingPlainly request c → KeepsCallingPlainly (option_map (λ (r : Request). r) request) c
mapped_plainly request c k = subst (λ (x : Option Request). KeepsCallingPlainly x c) (sym (own_request request)) k

pub own_plainly : {A : Type 0} (request : Option Request) (c : ConnOf A) → KeepsCallingPlainly (option_map (λ (r : Request). r) request) c → KeepsCallingPlainly request c
own_plainly request c k = subst (λ (x : Option Request). KeepsCallingPlainly x c) (own_request request) k

-- such a state that was never polled
pub started_plainly : {A : Type 0} (r : Request) (c : ConnOf A) → IsCallingPlainly (begun_by (Some r) c) → KeepsCallingPlainly (Some r) c
started_plainly r c i over denies = denies i

-- one that is polled on a, and leaves b
module _ {A : Type 0} (request : Option Request) (a b : ConnOf A) (keeps : KeepsCallingPlainly (option_map (λ (r : Request). r) request) a) (over : is_over request a.call ≡ false) where
  refuted_plainly : (IsCallingPlainly (begun_by request a) → ⊥) → ⊥
  refuted_plainly = subst (λ (x : Option Request). KeepsCallingPlainly x a) (own_request request) keeps over

  pub plainly_fits : (turn : Turn) → ((kind : Kind) → IsCalling kind (begun_by request a) → PollFits kind b (Ready turn)) → TurnFits kinds.Flush turn
  plainly_fits turn fits = turn_stands kinds.Flush turn (λ denies. refuted_plainly (λ k. denies (plain_fits k.0 turn k.1 (fits k.0 k.2).0)))

  pub plainly_over : (seen : A → LinkSeen) (behind : Option Request) (answer : Poll Turn) → behind ≡ None → PollsCall (seen_by seen (begun_by request a)) (seen_by seen b) answer → is_over behind b.call ≡ ends_call answer
  plainly_over seen behind answer e p = rw e (test_stands (not (runs b.call)) (ends_call answer) (λ denies. refuted_plainly (λ k. denies (poll_ends seen (begun_by request a) b k.0 answer p k.2))))

  pub plainly_behind : (seen : A → LinkSeen) (behind : Option Request) (answer : Poll Turn) → behind ≡ None → PollsCall (seen_by seen (begun_by request a)) (seen_by seen b) answer → KeepsCallingPlainly (option_map (λ (r : Request). r) behind) b
  plainly_behind seen behind answer e p = rw e (λ r denies. refuted_plainly (λ k. denies (k.0, k.1, still_calling k.0 b answer (poll_fits seen (begun_by request a) b k.0 answer p k.2) (poll_ends seen (begun_by request a) b k.0 answer p k.2) r)))

  pub plainly_calls : (seen : A → LinkSeen) (answer : Poll Turn) → PollsCall (seen_by seen (begun_by request a)) (seen_by seen b) answer → IsCallingPlainly (begun_by request a) → PollFitsPlainly b answer
  plainly_calls seen answer p k = (k.0, k.1, poll_fits seen (begun_by request a) b k.0 answer p k.2)
