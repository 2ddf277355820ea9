-- Where a play stands once what is left of a copy from the client is settled.
use Rattle.std.proofs.Common.{◌≡◌, ◌≢◌, ◌⊎◌, ℕ, zero, suc, ◌≤◌, inl, inr, cond, Bool, true, false, not, ◌&&◌, ◌||◌, nat_eq, leb, List, [], ◌∷◌, ◌++◌, length, refl, sym, ap, ap₂, ◌∙◌, subst, arith, append-nil, ne_eqb}
use Rattle.std.specs.List.{count_by}
use Rattle.std.proofs.lemmas.Bool.{le-leb}
use Rattle.pg_wire.specs.declared.error.Error.{Error}
use Rattle.pg_wire.specs.declared.error.Error.TheVariants as errors
use Rattle.pg_wire.specs.declared.error.ProtocolFault.TheVariants as protocol
use Rattle.pg_wire.specs.Frame.{Frame}
use Rattle.pg_wire.specs.Frontend.{CopyFail, FrontendMessage, HasFrontendFrame}
use Rattle.pg_wire.proofs.Each.{each_join}
use Rattle.pg_stream.specs.Streams.{StreamSeen}
use Rattle.pg_stream.specs.Links.{LinkSeen}
use Rattle.pg_stream.proofs.StreamLemmas.{cleans, queues}
use Rattle.pg_call.specs.declared.kind.Change.{Change}
use Rattle.pg_call.specs.declared.kind.Change.TheVariants as changes
use Rattle.pg_call.specs.Requests.{Group, copy_fail, kind_of, change_of, spelled}
use Rattle.pg_conn.specs.Connections.{ConnSeen, begins_copy, depth_behind, ends_copy, is_fed, opens, unfed, with_copy_fail}
use Rattle.pg_conn.specs.Turns.{ends_request, level_of}
use Rattle.pg_conn.proofs.CleanupLaws.{level_none, stays_unfed}
use Rattle.pg_conn.proofs.OwedLaws.{spelled-append, counts-append}
use Rattle.pg_startup.specs.Flows.{Flows}
use Rattle.pg_startup.proofs.FlowLaws.{Flows-then}
use Rattle.pg_report.specs.declared.outcome.End.{End}
use Rattle.pg_report.specs.declared.outcome.End.TheVariants as ends
use Rattle.pg_script.specs.declared.step.Call.{Call}
use Rattle.pg_script.specs.declared.step.Call.TheVariants as calls
use Rattle.pg_script.specs.declared.step.Fed.{Fed}
use Rattle.pg_script.specs.declared.step.Parting.{Parting}
use Rattle.pg_script.specs.declared.step.Parting.TheVariants as partings
use Rattle.pg_play.specs.Shown.{parting_of, request_of}
use Rattle.pg_play.specs.Calls.{change_for, copy_behind, failed_by, parted}
use Rattle.pg_play.specs.Places.{Place}
use Rattle.pg_play.specs.Copying.{is_over, fails, failing, failing_by, is_failed_by, LeavesCopy}
use Rattle.pg_play.specs.Plays.{StandsAt}
use Rattle.pg_play.proofs.PlaceLaws.{fails_said}

-- what leaves nothing of a copy leaves the place
pub leaves_none : (call : Call) (own : List Group) (end : End) (mid : Place) → fails call own end ≡ false → is_failed_by call own end ≡ false → LeavesCopy call own end mid mid
leaves_none call own end mid f g =
    let none : failing call own end ≡ [] = ap (λ (b : Bool). cond b (failing_by (parting_of call) end ∷ []) []) f in
    ap₂ (λ (said : List FrontendMessage) (unsent : List ℕ). record mid { said = said; seen = record mid.seen { unsent = unsent } }) (sym (ap (λ (x : List FrontendMessage). mid.said ++ x) none ∙ append-nil mid.said)) (sym (ap (λ (x : List FrontendMessage). mid.seen.unsent ++ spelled x) none ∙ append-nil mid.seen.unsent))
    ∙ ap₂ (λ (c h : Bool). record mid { said = mid.said ++ failing call own end; seen = record mid.seen { unsent = mid.seen.unsent ++ spelled (failing call own end) }; is_copy_failed = c; has_failed = h }) (sym (ap (λ (b : Bool). b || mid.is_copy_failed) g)) (sym (ap (λ (b : Bool). b || mid.has_failed) f))

pub fails_nothing : (call : Call) (end : End) → (fails call [] end ≡ false) × (is_failed_by call [] end ≡ false)
fails_nothing (calls.Feed fed) end = (refl, refl)
fails_nothing _ end = (refl, refl)

-- a call that was begun so does to transactions what it would have done
pub record Acts (call : Call) (d : ℕ) (c : ConnSeen) : Type 0 where
  pub opens_so : opens c.change ≡ opens (change_of (kind_of (request_of d call)))
  pub depth_so : (n : ℕ) → depth_behind c.change c.groups n ≡ depth_behind (change_of (kind_of (request_of d call))) c.groups n

-- The connection stands at the place that is left of a copy, and no number of it is another.
pub record LeavesTo (start : StreamSeen) (call : Call) (d : ℕ) (own : List Group) (end : End) (mid : Place) (m c : ConnSeen) : Type 0 where
  pub left : Place
  pub leaves : LeavesCopy call own end mid left
  pub stands : StandsAt start left c
  pub acts : Acts call d c
  pub others : (c.groups ≡ m.groups) × (c.heard ≡ m.heard) × (c.stream.waits ≡ m.stream.waits) × (c.stream.moves ≡ m.stream.moves) × (c.earlier ≡ m.earlier) × (c.cache ≡ m.cache) × (c.keeping ≡ m.keeping)

-- nothing is left
leaves_so : (start : StreamSeen) (call : Call) (d : ℕ) (own : List Group) (end : End) (mid : Place) (m c : ConnSeen) → c ≡ m → StandsAt start mid m → Acts call d m → (fails call own end ≡ false) × (is_failed_by call own end ≡ false) → LeavesTo start call d own end mid m c
leaves_so start call d own end mid m c e st acts none = record {
  left = mid;
  leaves = leaves_none call own end mid none.0 none.1;
  stands = subst (λ (x : ConnSeen). StandsAt start mid x) (sym e) st;
  acts = subst (λ (x : ConnSeen). Acts call d x) (sym e) acts;
  others = (ap (λ (x : ConnSeen). x.groups) e, ap (λ (x : ConnSeen). x.heard) e, ap (λ (x : ConnSeen). x.stream.waits) e, ap (λ (x : ConnSeen). x.stream.moves) e, ap (λ (x : ConnSeen). x.earlier) e, ap (λ (x : ConnSeen). x.cache) e, ap (λ (x : ConnSeen). x.keeping) e);
}

-- what is no copy from the client leaves none
copies_none : (over : Bool) (c : ConnSeen) (d : ℕ) (call : Call) → c.change ≡ change_for (request_of d call) → ((fed : Fed) → call ≡ calls.Feed fed → ⊥) → unfed over c ≡ c
copies_none over c d call e n = let x = both call n in stays_unfed over c (ap (λ (k : Change). not (nat_eq c.groups 0) && begins_copy k) e ∙ ap (λ (b : Bool). not (nat_eq c.groups 0) && b) x.0 ∙ none (nat_eq c.groups 0)) (ap (λ (k : Change). not (nat_eq c.groups 0) && is_fed k) e ∙ ap (λ (b : Bool). not (nat_eq c.groups 0) && b) x.1 ∙ none (nat_eq c.groups 0))
  where
    none : (g : Bool) → not g && false ≡ false
    none true = refl
    none false = refl

    both : (call : Call) → ((fed : Fed) → call ≡ calls.Feed fed → ⊥) → (begins_copy (change_for (request_of d call)) ≡ false) × (is_fed (change_for (request_of d call)) ≡ false)
    both (calls.Feed fed) n = absurd (n fed refl)
    both calls.Commit n = by d
      where
        by : (d : ℕ) → (begins_copy (change_for (request_of d calls.Commit)) ≡ false) × (is_fed (change_for (request_of d calls.Commit)) ≡ false)
        by zero = (refl, refl)
        by (suc left) = (refl, refl)
    both calls.Rollback n = by d
      where
        by : (d : ℕ) → (begins_copy (change_for (request_of d calls.Rollback)) ≡ false) × (is_fed (change_for (request_of d calls.Rollback)) ≡ false)
        by zero = (refl, refl)
        by (suc left) = (refl, refl)
    both _ n = (refl, refl)

-- a copy that was fed to its end, and isn't Ok: its response stays owed, for which no CopyFail is due
owned_place : Place → Place
owned_place mid = record mid { is_copy_failed = true }

stands_owned : (start : StreamSeen) (mid : Place) (m : ConnSeen) → StandsAt start mid m → StandsAt start (record mid { is_copy_failed = true }) (record m { ledger = record m.ledger { is_copy_failed = true } })
stands_owned start mid m st = record {
  flows = st.flows;
  ledger = st.ledger;
  failed = λ o. refl;
  broken = st.broken;
  seen = st.seen;
  rule = st.rule;
  learnt = st.learnt;
  room = let k = st.room in omega (arith, k);
  idle = st.idle;
  sayable = st.sayable;
  are_groups = st.are_groups;
  between = st.between;
  plain = st.plain;
  requests = st.requests;
}

-- one that is open is failed, out of the room that is kept for that
failed_place : Place → ConnSeen → Place
failed_place mid m = record mid { said = mid.said ++ copy_fail ∷ []; seen = (with_copy_fail m).stream; is_copy_failed = true; has_failed = true }

stands_failed : (start : StreamSeen) (mid : Place) (m : ConnSeen) → StandsAt start mid m → 64 ≤ level_of m.change m.groups → StandsAt start (failed_place mid m) (with_copy_fail m)
unfolding failed_place
stands_failed start mid m st level =
    let room = st.room in
    let fits : length (spelled (copy_fail ∷ [])) ≤ m.stream.spare = omega (arith, room, level) in
    let moves = (cleans (λ (link : LinkSeen). link) m.stream (with_copy_fail m).stream (spelled (copy_fail ∷ [])) fits refl).0 in
    let one : Flows m.stream (with_copy_fail m).stream (spelled (copy_fail ∷ [])) [] = record { counts = moves.counts; secured = moves.secured; sent = moves.sent; read = moves.read } in
    let all = Flows-then start m.stream (with_copy_fail m).stream (spelled mid.said) (spelled (copy_fail ∷ [])) mid.frames [] st.flows one in
    record {
      flows = subst (λ (q : List ℕ). Flows start (with_copy_fail m).stream q mid.frames) (sym (spelled-append mid.said (copy_fail ∷ [])))
          (subst (λ (f : List Frame). Flows start (with_copy_fail m).stream (spelled mid.said ++ spelled (copy_fail ∷ [])) f) (append-nil mid.frames) all);
      ledger = st.ledger;
      failed = λ o. refl;
      broken = st.broken;
      seen = refl;
      rule = st.rule;
      learnt = st.learnt;
      room = omega (arith, room, level, level_none m.groups);
      idle = st.idle;
      sayable = each_join HasFrontendFrame mid.said (copy_fail ∷ []) st.sayable (fails_said 1);
      are_groups = st.are_groups;
      between = st.between;
      plain = λ h n. absurd cc;
      requests = let none : count_by ends_request (copy_fail ∷ []) ≡ 0 = refl in omega (arith, st.requests, none, counts-append mid.said (copy_fail ∷ []));
    }

some_group : (g : Group) (gs : List Group) (n : ℕ) → n ≡ length (g ∷ gs) → nat_eq n 0 ≡ false
some_group g gs zero e = absurd (omega (arith, e))
some_group g gs (suc n) e = ne_eqb (suc n) 0 (λ z. omega (arith, z))

-- or by a message of its own, which is queued as its data was
named_place : Place → ConnSeen → List ℕ → Place
named_place mid m message = record mid { said = mid.said ++ CopyFail message ∷ []; seen = (failed_by message m).stream; is_copy_failed = true; has_failed = true }

stands_named : (start : StreamSeen) (mid : Place) (m : ConnSeen) (message : List ℕ) → StandsAt start mid m → HasFrontendFrame (CopyFail message) → StandsAt start (named_place mid m message) (failed_by message m)
unfolding named_place
stands_named start mid m message st can =
    let room = st.room in
    let moves = (queues (λ (link : LinkSeen). link) m.stream (failed_by message m).stream (spelled (CopyFail message ∷ [])) refl).0 in
    let one : Flows m.stream (failed_by message m).stream (spelled (CopyFail message ∷ [])) [] = record { counts = moves.counts; secured = moves.secured; sent = moves.sent; read = moves.read } in
    let all = Flows-then start m.stream (failed_by message m).stream (spelled mid.said) (spelled (CopyFail message ∷ [])) mid.frames [] st.flows one in
    record {
      flows = subst (λ (q : List ℕ). Flows start (failed_by message m).stream q mid.frames) (sym (spelled-append mid.said (CopyFail message ∷ [])))
          (subst (λ (f : List Frame). Flows start (failed_by message m).stream (spelled mid.said ++ spelled (CopyFail message ∷ [])) f) (append-nil mid.frames) all);
      ledger = st.ledger;
      failed = λ o. refl;
      broken = st.broken;
      seen = refl;
      rule = st.rule;
      learnt = st.learnt;
      room = omega (arith, room, level_none m.groups);
      idle = st.idle;
      sayable = each_join HasFrontendFrame mid.said (CopyFail message ∷ []) st.sayable (can, tt);
      are_groups = st.are_groups;
      between = st.between;
      plain = λ h n. absurd cc;
      requests = let none : count_by ends_request (CopyFail message ∷ []) ≡ 0 = refl in omega (arith, st.requests, none, counts-append mid.said (CopyFail message ∷ []));
    }

-- where a copy is failed by a message of its own, its group was queued, and the message has a frame
abbrev pub CanFail : Parting → List Group → End → Type 0
CanFail parting own end = end ≡ ends.Dropped → (message : List ℕ) → parting ≡ partings.Failed message → (own ≢ []) × HasFrontendFrame (CopyFail message)

-- behind the end of a copy from the client
feed_leaves : (start : StreamSeen) (fed : Fed) (d : ℕ) (own : List Group) (end : End) (mid : Place) (m : ConnSeen) → StandsAt start mid m → m.groups ≡ length own → m.change ≡ cond fed.is_ended changes.Fed changes.Copies → CanFail fed.parting own end → LeavesTo start (calls.Feed fed) d own end mid m (copy_behind fed.parting end m)
unfolding failed_place named_place
feed_leaves start fed d own end mid m st groups change can = by own end groups can
  where
    acts : Acts (calls.Feed fed) d m
    acts = record { opens_so = ap opens change ∙ one fed.is_ended; depth_so = λ n. ap (λ (c : Change). depth_behind c m.groups n) change ∙ two fed.is_ended n }
      where
        one : (b : Bool) → opens (cond b changes.Fed changes.Copies) ≡ false
        one true = refl
        one false = refl

        two : (b : Bool) (n : ℕ) → depth_behind (cond b changes.Fed changes.Copies) m.groups n ≡ n
        two true n = refl
        two false n = refl

    none_unfed : (over : Bool) → m.groups ≡ 0 → unfed over m ≡ m
    none_unfed over e = stays_unfed over m (ap (λ (n : ℕ). not (nat_eq n 0) && begins_copy m.change) e) (ap (λ (n : ℕ). not (nat_eq n 0) && is_fed m.change) e)

    nothing : (end : End) → m.groups ≡ 0 → CanFail fed.parting [] end → copy_behind fed.parting end m ≡ m
    nothing (ends.Ok answer) e can = refl
    nothing (ends.Err x) e can = none_unfed (ends_copy x) e
    nothing ends.Dropped e can = at fed.parting refl
      where
        at : (q : Parting) → fed.parting ≡ q → parted q m ≡ m
        at partings.None p = none_unfed false e
        at partings.Left p = none_unfed false e
        at partings.Unsaid p = none_unfed false e
        at (partings.Failed message) p = absurd ((can refl message p).0 refl)

    -- it was fed to its end
    whole : (g : Group) (gs : List Group) (end : End) (over : Bool) → nat_eq m.groups 0 ≡ false → fed.is_ended ≡ true → fails (calls.Feed fed) (g ∷ gs) end ≡ false → is_failed_by (calls.Feed fed) (g ∷ gs) end ≡ true → LeavesTo start (calls.Feed fed) d (g ∷ gs) end mid m (unfed over m)
    whole g gs end over some e f k =
        let fed_change : m.change ≡ changes.Fed = change ∙ ap (λ (b : Bool). cond b changes.Fed changes.Copies) e in
        let is : unfed over m ≡ record m { ledger = record m.ledger { is_copy_failed = true } } = rw (fed_change, some) refl in
        let none : failing (calls.Feed fed) (g ∷ gs) end ≡ [] = ap (λ (b : Bool). cond b (failing_by fed.parting end ∷ []) []) f in
        subst (λ (c : ConnSeen). LeavesTo start (calls.Feed fed) d (g ∷ gs) end mid m c) (sym is) (record {
          left = record mid { is_copy_failed = true };
          leaves = rw (none, f, k) (ap₂ (λ (said : List FrontendMessage) (unsent : List ℕ). record mid { said = said; seen = record mid.seen { unsent = unsent }; is_copy_failed = true }) (sym (append-nil mid.said)) (sym (append-nil mid.seen.unsent)));
          stands = stands_owned start mid m st;
          acts = record { opens_so = acts.opens_so; depth_so = acts.depth_so };
          others = (refl, refl, refl, refl, refl, refl, refl);
        })

    -- it was open, and an error of the server has ended it
    over_open : (g : Group) (gs : List Group) (end : End) → nat_eq m.groups 0 ≡ false → fed.is_ended ≡ false → fails (calls.Feed fed) (g ∷ gs) end ≡ false → is_failed_by (calls.Feed fed) (g ∷ gs) end ≡ false → LeavesTo start (calls.Feed fed) d (g ∷ gs) end mid m (unfed true m)
    over_open g gs end some e f k =
        let open_change : m.change ≡ changes.Copies = change ∙ ap (λ (b : Bool). cond b changes.Fed changes.Copies) e in
        let is : unfed true m ≡ m = rw (open_change, some) refl in
        leaves_so start (calls.Feed fed) d (g ∷ gs) end mid m (unfed true m) is st acts (f, k)

    -- it was open
    is_open : (g : Group) (gs : List Group) (end : End) → nat_eq m.groups 0 ≡ false → fed.is_ended ≡ false → failing_by fed.parting end ≡ copy_fail → fails (calls.Feed fed) (g ∷ gs) end ≡ true → is_failed_by (calls.Feed fed) (g ∷ gs) end ≡ true → LeavesTo start (calls.Feed fed) d (g ∷ gs) end mid m (unfed false m)
    is_open g gs end some e by_own f k =
        let open_change : m.change ≡ changes.Copies = change ∙ ap (λ (b : Bool). cond b changes.Fed changes.Copies) e in
        let level : level_of m.change m.groups ≡ 64 = rw (open_change, some) refl in
        let room = st.room in
        let fits : leb (length (spelled (copy_fail ∷ []))) m.stream.spare ≡ true = le-leb _ _ (omega (arith, room, level)) in
        let is : unfed false m ≡ with_copy_fail m = rw (open_change, some, fits) refl in
        let said : failing (calls.Feed fed) (g ∷ gs) end ≡ copy_fail ∷ [] = ap (λ (b : Bool). cond b (failing_by fed.parting end ∷ []) []) f ∙ ap (λ (x : FrontendMessage). x ∷ []) by_own in
        subst (λ (c : ConnSeen). LeavesTo start (calls.Feed fed) d (g ∷ gs) end mid m c) (sym is) (record {
          left = failed_place mid m;
          leaves = rw (said, f, k) (ap (λ (s : StreamSeen). record mid { said = mid.said ++ copy_fail ∷ []; seen = record s { unsent = s.unsent ++ spelled (copy_fail ∷ []); spare = (with_copy_fail m).stream.spare }; is_copy_failed = true; has_failed = true }) st.seen);
          stands = stands_failed start mid m st (omega (arith, level));
          acts = record { opens_so = refl; depth_so = λ n. refl };
          others = (refl, refl, refl, refl, refl, refl, refl);
        })

    by_over : (g : Group) (gs : List Group) (end : End) (over : Bool) → nat_eq m.groups 0 ≡ false → fed.is_ended ≡ false → failing_by fed.parting end ≡ copy_fail → over ≡ is_over end → is_failed_by (calls.Feed fed) (g ∷ gs) end ≡ fed.is_ended || not (is_over end) → LeavesTo start (calls.Feed fed) d (g ∷ gs) end mid m (unfed over m)
    by_over g gs end true some e by_own o k = over_open g gs end some e (ap₂ (λ (a b : Bool). not (a || b)) e (sym o)) (k ∙ ap₂ (λ (a b : Bool). a || not b) e (sym o))
    by_over g gs end false some e by_own o k = is_open g gs end some e by_own (ap₂ (λ (a b : Bool). not (a || b)) e (sym o)) (k ∙ ap₂ (λ (a b : Bool). a || not b) e (sym o))

    same_over : (x : Error) → ends_copy x ≡ is_over (ends.Err x)
    same_over (errors.Database details) = refl
    same_over (errors.Protocol (protocol.Reply tag)) = refl
    same_over (errors.Protocol _) = refl
    same_over _ = refl

    -- it was open, and is failed by a message of its own
    is_named : (g : Group) (gs : List Group) (message : List ℕ) → fed.is_ended ≡ false → fed.parting ≡ partings.Failed message → HasFrontendFrame (CopyFail message) → LeavesTo start (calls.Feed fed) d (g ∷ gs) ends.Dropped mid m (parted fed.parting m)
    is_named g gs message e p can =
        let open_change : m.change ≡ changes.Copies = change ∙ ap (λ (b : Bool). cond b changes.Fed changes.Copies) e in
        let is : parted fed.parting m ≡ failed_by message m = rw (p, open_change) refl in
        let f : fails (calls.Feed fed) (g ∷ gs) ends.Dropped ≡ true = ap (λ (b : Bool). not (b || false)) e in
        let k : is_failed_by (calls.Feed fed) (g ∷ gs) ends.Dropped ≡ true = ap (λ (b : Bool). b || true) e in
        let said : failing (calls.Feed fed) (g ∷ gs) ends.Dropped ≡ CopyFail message ∷ [] = ap (λ (b : Bool). cond b (failing_by fed.parting ends.Dropped ∷ []) []) f ∙ ap (λ (q : Parting). failing_by q ends.Dropped ∷ []) p in
        subst (λ (c : ConnSeen). LeavesTo start (calls.Feed fed) d (g ∷ gs) ends.Dropped mid m c) (sym is) (record {
          left = named_place mid m message;
          leaves = rw (said, f, k) (ap (λ (s : StreamSeen). record mid { said = mid.said ++ CopyFail message ∷ []; seen = record s { unsent = s.unsent ++ spelled (CopyFail message ∷ []); spare = (failed_by message m).stream.spare }; is_copy_failed = true; has_failed = true }) st.seen);
          stands = stands_named start mid m message st can;
          acts = record { opens_so = refl; depth_so = λ n. refl };
          others = (refl, refl, refl, refl, refl, refl, refl);
        })

    by : (own : List Group) (end : End) → m.groups ≡ length own → CanFail fed.parting own end → LeavesTo start (calls.Feed fed) d own end mid m (copy_behind fed.parting end m)
    by [] end e can = leaves_so start (calls.Feed fed) d [] end mid m (copy_behind fed.parting end m) (nothing end e can) st acts (refl, refl)
    by (g ∷ gs) (ends.Ok answer) e can = leaves_so start (calls.Feed fed) d (g ∷ gs) (ends.Ok answer) mid m m refl st acts (none fed.is_ended, refl)
      where
        none : (b : Bool) → not (b || true) ≡ false
        none true = refl
        none false = refl
    by (g ∷ gs) (ends.Err x) e can = at fed.is_ended refl
      where
        at : (b : Bool) → fed.is_ended ≡ b → LeavesTo start (calls.Feed fed) d (g ∷ gs) (ends.Err x) mid m (unfed (ends_copy x) m)
        at true w = whole g gs (ends.Err x) (ends_copy x) (some_group g gs m.groups e) w (ap (λ (b : Bool). not (b || is_over (ends.Err x))) w) (ap (λ (b : Bool). b || not (is_over (ends.Err x))) w)
        at false w = by_over g gs (ends.Err x) (ends_copy x) (some_group g gs m.groups e) w (own_none fed.parting) (same_over x) refl
          where
            own_none : (q : Parting) → failing_by q (ends.Err x) ≡ copy_fail
            own_none partings.None = refl
            own_none partings.Left = refl
            own_none partings.Unsaid = refl
            own_none (partings.Failed message) = refl
    by (g ∷ gs) ends.Dropped e can = at fed.is_ended refl fed.parting refl
      where
        whole_so : (q : Parting) → fed.is_ended ≡ true → parted q m ≡ unfed false m
        whole_so partings.None w = refl
        whole_so partings.Left w = refl
        whole_so partings.Unsaid w = refl
        whole_so (partings.Failed message) w = let fed_change : m.change ≡ changes.Fed = change ∙ ap (λ (b : Bool). cond b changes.Fed changes.Copies) w in rw fed_change refl

        open_so : (q : Parting) → parted q m ≡ unfed false m → failing_by q ends.Dropped ≡ copy_fail → fed.parting ≡ q → fed.is_ended ≡ false → LeavesTo start (calls.Feed fed) d (g ∷ gs) ends.Dropped mid m (parted fed.parting m)
        open_so q same own p w = subst (λ (c : ConnSeen). LeavesTo start (calls.Feed fed) d (g ∷ gs) ends.Dropped mid m c) (sym (ap (λ (x : Parting). parted x m) p ∙ same)) (by_over g gs ends.Dropped false (some_group g gs m.groups e) w (ap (λ (x : Parting). failing_by x ends.Dropped) p ∙ own) refl refl)

        at : (b : Bool) → fed.is_ended ≡ b → (q : Parting) → fed.parting ≡ q → LeavesTo start (calls.Feed fed) d (g ∷ gs) ends.Dropped mid m (parted fed.parting m)
        at false w partings.None p = open_so partings.None refl refl p w
        at false w partings.Left p = open_so partings.Left refl refl p w
        at false w partings.Unsaid p = open_so partings.Unsaid refl refl p w
        at false w (partings.Failed message) p = is_named g gs message w p (can refl message p).1
        at true w q p = subst (λ (c : ConnSeen). LeavesTo start (calls.Feed fed) d (g ∷ gs) ends.Dropped mid m c) (sym (whole_so fed.parting w)) (whole g gs ends.Dropped false (some_group g gs m.groups e) w (ap (λ (b : Bool). not (b || is_over ends.Dropped)) w) (ap (λ (b : Bool). b || not (is_over ends.Dropped)) w))

-- behind the end of another call
plain_leaves : (start : StreamSeen) (call : Call) (d : ℕ) (own : List Group) (end : End) (mid : Place) (m : ConnSeen) → StandsAt start mid m → m.change ≡ change_for (request_of d call) → ((fed : Fed) → call ≡ calls.Feed fed → ⊥) → LeavesTo start call d own end mid m (copy_behind (parting_of call) end m)
plain_leaves start call d own end mid m st change no_feed = leaves_so start call d own end mid m (copy_behind (parting_of call) end m) (ap (λ (q : Parting). copy_behind q end m) (no_parting call no_feed) ∙ plain end) st (record { opens_so = ap opens change ∙ ap opens (is call no_feed); depth_so = λ n. ap (λ (c : Change). depth_behind c m.groups n) (change ∙ is call no_feed) }) (fails_so call no_feed)
  where
    no_parting : (call : Call) → ((fed : Fed) → call ≡ calls.Feed fed → ⊥) → parting_of call ≡ partings.None
    no_parting (calls.Feed fed) n = absurd (n fed refl)
    no_parting _ n = refl

    plain : (end : End) → copy_behind partings.None end m ≡ m
    plain (ends.Ok answer) = refl
    plain (ends.Err x) = copies_none (ends_copy x) m d call change no_feed
    plain ends.Dropped = copies_none false m d call change no_feed

    is : (call : Call) → ((fed : Fed) → call ≡ calls.Feed fed → ⊥) → change_for (request_of d call) ≡ change_of (kind_of (request_of d call))
    is (calls.Feed fed) n = absurd (n fed refl)
    is calls.Commit n = by d
      where
        by : (d : ℕ) → change_for (request_of d calls.Commit) ≡ change_of (kind_of (request_of d calls.Commit))
        by zero = refl
        by (suc left) = refl
    is calls.Rollback n = by d
      where
        by : (d : ℕ) → change_for (request_of d calls.Rollback) ≡ change_of (kind_of (request_of d calls.Rollback))
        by zero = refl
        by (suc left) = refl
    is _ n = refl

    fails_so : (call : Call) → ((fed : Fed) → call ≡ calls.Feed fed → ⊥) → (fails call own end ≡ false) × (is_failed_by call own end ≡ false)
    fails_so (calls.Feed fed) n = absurd (n fed refl)
    fails_so _ n = (refl, refl)

feeds_or_not : (call : Call) → ((fed : Fed) × (call ≡ calls.Feed fed)) ⊎ ((fed : Fed) → call ≡ calls.Feed fed → ⊥)
feeds_or_not (calls.Feed fed) = inl (fed, refl)
feeds_or_not _ = inr (λ fed e. cc)

-- behind the end of any call
pub leaves_to : (start : StreamSeen) (call : Call) (d : ℕ) (own : List Group) (end : End) (mid : Place) (m : ConnSeen) → StandsAt start mid m → m.groups ≡ length own → m.change ≡ change_for (request_of d call) → CanFail (parting_of call) own end → LeavesTo start call d own end mid m (copy_behind (parting_of call) end m)
leaves_to start call d own end mid m st groups change can = elim (feeds_or_not call) [
  | inl x ↦ subst (λ (c : Call). m.change ≡ change_for (request_of d c) → CanFail (parting_of c) own end → LeavesTo start c d own end mid m (copy_behind (parting_of c) end m)) (sym x.1) (λ k f. feed_leaves start x.0 d own end mid m st groups k f) change can
  | inr n ↦ plain_leaves start call d own end mid m st change n
]
