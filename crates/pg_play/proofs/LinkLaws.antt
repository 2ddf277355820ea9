-- A play against a server whose frames are replies.
use Rattle.std.proofs.Common.{false, ◌≡◌, ℕ, ◌+◌, List, [], ◌∷◌, ◌++◌, map, refl, sym, ap, ◌∙◌, subst, append_assoc, append-nil, Option, Some, None, ◌⊎◌, inl, inr, sum_by, arith}
use Rattle.pg_stream.specs.Links.{LinkSeen, GrewBy}
use Rattle.pg_play.proofs.SettleLaws.{held_same, front_behind, heard_before}
use Rattle.pg_play.proofs.PlaceLaws.{all_split}
use Rattle.pg_play.proofs.SettleLaws.{left_broken, left_link}
use Rattle.pg_play.specs.Settling.{Settles}
use Rattle.pg_play.specs.Copying.{LeavesCopy}
use Rattle.std.specs.List.{AllByRecursion}
use Rattle.std.proofs.lemmas.List.Sums.{sum_by-append}
use Rattle.pg_stream.specs.Streams.{HeaderFault, IsMalformedFront, StreamSeen}
use Rattle.pg_stream.proofs.StreamLemmas.{GrewBy-then}
use Rattle.pg_wire.specs.declared.error.Error.TheVariants as errors
use Rattle.pg_wire.specs.declared.error.ProtocolFault.TheVariants as protocol
use Rattle.pg_wire.specs.declared.error.ServerFault.{ServerFault}
use Rattle.pg_wire.specs.declared.error.ServerFault.TheVariants as faults
use Rattle.pg_wire.specs.Frame.{Frame, bytes_of, text_of, backend_tags, IsWhole}
use Rattle.pg_wire.specs.Cut.{Cuts}
use Rattle.pg_wire.specs.Parts.{heard}
use Rattle.pg_wire.specs.Backend.{BackendMessage}
use Rattle.pg_wire.specs.Frontend.{FrontendMessage, frontend_frame, HasFrontendFrame}
use Rattle.pg_wire.specs.Server.{IsPrefixOf, AreReplies, MayHear}
use Rattle.pg_wire.specs.Groups.{IsGroup}
use Rattle.pg_wire.proofs.PartLaws.{heard-append}
use Rattle.pg_wire.proofs.CutLaws.{cut_after_taken}
use Rattle.pg_wire.proofs.RunLaws.{replies_fewer}
use Rattle.pg_wire.proofs.SentLaws.{replies_answer, hear_fewer}
use Rattle.pg_wire.proofs.ReplyLaws.{frames_answer}
use Rattle.pg_call.specs.Requests.{said_in, Group, widths_of}
use Rattle.pg_play.specs.Shown.{request_of}
use Rattle.pg_report.specs.declared.outcome.End.{End}
use Rattle.pg_script.specs.declared.step.Call.{Call}
use Rattle.pg_report.specs.declared.outcome.End.TheVariants as ends
use Rattle.pg_report.specs.declared.outcome.Outcome.{Outcome}
use Rattle.pg_script.specs.declared.step.Step.{Step}
use Rattle.pg_play.specs.Kept.{Keeps}
use Rattle.pg_play.proofs.NameLaws.{names_kept}
use Rattle.pg_play.specs.Calls.{broken_after}
use Rattle.pg_play.specs.Places.{Place}
use Rattle.pg_play.specs.Told.{CountsTo}
use Rattle.pg_play.specs.Causes.{IsFront, HasNoMessage, ShowsFault, HasCause}
use Rattle.pg_play.specs.Plays.{Plays_call, Plays_exchange, Plays_exchanges, last_of, FirstIs, TellsAll, Plays_step, Plays_from, AsksForNoCopy, NoneUnlawful, WhereLawful, Totals, IsNeverUnlawful, begun_at}
use Rattle.pg_play.proofs.RepliesLaws.{StartsNoCopy, all_prefix, replies_start_no_copy, asks_for_none, replies_to_all}
use Rattle.pg_learning.specs.declared.learnt.Learnt.{Learnt}

-- ---- a place that is broken

-- what stands in front is nothing that a server might have sent
abbrev pub Refutes : ServerFault → Place → Type 0
Refutes (faults.Unlawful tag) at = (front : Frame) × IsFront at front × (AllByRecursion IsGroup at.groups → MayHear (said_in at.groups) (heard at.frames ++ front ∷ []) → ⊥)
Refutes (faults.Malformed tag) at = IsMalformedFront at.seen.held tag ⊎ ((front : Frame) × IsFront at front × HasNoMessage front)
Refutes fault at = HeaderFault at.seen.held fault

abbrev pub BreaksSo : Place → Type 0
BreaksSo at = (fault : ServerFault) → at.broken ≡ Some fault → Refutes fault at

none_broken : (o : Option ServerFault) (fault : ServerFault) → o ≡ None → o ≡ Some fault → ⊥
none_broken None fault x y = absurd cc
none_broken (Some g) fault x y = absurd cc

shown_refutes : (at : Place) (step : Step) (out : Outcome) (next : Place) (one : Plays_call at step out next) (fault : ServerFault) → IsNeverUnlawful at out next → at.broken ≡ None → out.end ≡ ends.Err (errors.Protocol (protocol.Server fault)) → ShowsFault (widths_of (request_of at.rule.depth step.call)) at one.own one.slice next fault → Refutes fault next
shown_refutes at step out next one (faults.Unlawful tag) n w e u = (u.front, u.is_front, λ gs. n tag u.front gs w e u.is_front)
shown_refutes at step out next one (faults.Malformed tag) n w e (inl m) = inl m
shown_refutes at step out next one (faults.Malformed tag) n w e (inr m) = inr (m.0, m.1, m.3)
shown_refutes at step out next one fault n w e h = h

ends_refute : (at : Place) (step : Step) (out : Outcome) (next : Place) (one : Plays_call at step out next) (fault : ServerFault) → IsNeverUnlawful at out next → at.broken ≡ None → out.end ≡ ends.Err (errors.Protocol (protocol.Server fault)) → Refutes fault next
ends_refute at step out next one fault n w e = elim (subst (λ (z : End). HasCause at step one.own one.slice next z) e one.cause) [
  | inl kept ↦ absurd (none_broken at.broken fault w kept)
  | inr shown ↦ shown_refutes at step out next one fault n w e shown
]

-- what stands in front after the call stands there behind its end
settled_refutes : {response : List BackendMessage} (fault : ServerFault) (at : Place) (step : Step) (told out : Outcome) (own : List Group) (mid next : Place) → Settles at step told out own response mid next → Refutes fault mid → Refutes fault next
settled_refutes (faults.Unlawful tag) at step told out own mid next s r = (r.0, front_behind mid next r.0 (held_same at step told out own mid next s) r.1, λ gs l. r.2 (all_split IsGroup mid.groups s.cleanup (subst (AllByRecursion IsGroup) s.groups gs)).0 (heard_before at step told out own mid next r.0 s l))
settled_refutes (faults.Malformed tag) at step told out own mid next s (inl m) = inl (subst (λ (held : List ℕ). IsMalformedFront held tag) (sym (held_same at step told out own mid next s)) m)
settled_refutes (faults.Malformed tag) at step told out own mid next s (inr r) = inr (r.0, front_behind mid next r.0 (held_same at step told out own mid next s) r.1, r.2)
settled_refutes (faults.ShortLength tag size) at step told out own mid next s r = subst (λ (held : List ℕ). HeaderFault held (faults.ShortLength tag size)) (sym (held_same at step told out own mid next s)) r
settled_refutes (faults.UnknownTag tag) at step told out own mid next s r = subst (λ (held : List ℕ). HeaderFault held (faults.UnknownTag tag)) (sym (held_same at step told out own mid next s)) r
settled_refutes _ at step told out own mid next s r = absurd r

-- and where what is left of a copy is settled
left_refutes : (fault : ServerFault) (call : Call) (own : List Group) (end : End) (mid left : Place) → LeavesCopy call own end mid left → Refutes fault mid → Refutes fault left
left_refutes (faults.Unlawful tag) call own end mid left l r =
    let f = r.1 in
    subst (Refutes (faults.Unlawful tag)) (sym l) (r.0, record { rest = f.rest; whole = f.whole; answers = f.answers; held = f.held }, r.2)
left_refutes (faults.Malformed tag) call own end mid left l (inl m) = subst (Refutes (faults.Malformed tag)) (sym l) (inl m)
left_refutes (faults.Malformed tag) call own end mid left l (inr r) =
    let f = r.1 in
    subst (Refutes (faults.Malformed tag)) (sym l) (inr (r.0, record { rest = f.rest; whole = f.whole; answers = f.answers; held = f.held }, r.2))
left_refutes fault call own end mid left l r = subst (Refutes fault) (sym l) r

-- an exchange on a broken connection keeps what stands in front
keeps_so : (fault : ServerFault) (at next : Place) (left waits moves : ℕ) → next ≡ record at { seen = record at.seen { left = left; waits = waits; moves = moves } } → Refutes fault at → Refutes fault next
keeps_so (faults.Unlawful tag) at next left waits moves e r =
    let f = r.1 in
    subst (Refutes (faults.Unlawful tag)) (sym e) (r.0, record { rest = f.rest; whole = f.whole; answers = f.answers; held = f.held }, r.2)
keeps_so (faults.Malformed tag) at next left waits moves e (inl m) = subst (Refutes (faults.Malformed tag)) (sym e) (inl m)
keeps_so (faults.Malformed tag) at next left waits moves e (inr r) =
    let f = r.1 in
    subst (Refutes (faults.Malformed tag)) (sym e) (inr (r.0, record { rest = f.rest; whole = f.whole; answers = f.answers; held = f.held }, r.2))
keeps_so fault at next left waits moves e r = subst (Refutes fault) (sym e) r

-- the end by which a connection that was whole is broken
ends_so : (end : End) (fault : ServerFault) → broken_after None end ≡ Some fault → end ≡ ends.Err (errors.Protocol (protocol.Server fault))
ends_so (ends.Err (errors.Protocol (protocol.Server f))) fault e = let same : f ≡ fault = cc in ap (λ (x : ServerFault). ends.Err (errors.Protocol (protocol.Server x))) same
ends_so (ends.Err (errors.Protocol _)) fault e = absurd cc
ends_so (ends.Err _) fault e = absurd cc
ends_so (ends.Ok told) fault e = absurd cc
ends_so ends.Dropped fault e = absurd cc

called_on : (at : Place) (step : Step) (out : Outcome) (next : Place) → Plays_call at step out next → IsNeverUnlawful at out next → BreaksSo at → BreaksSo next
called_on at step out next one lawful so fault e = by at.broken refl
  where
    by : (o : Option ServerFault) → at.broken ≡ o → Refutes fault next
    by None w = ends_refute at step out next one fault lawful w (ends_so out.end fault (sym (ap (λ (x : Option ServerFault). broken_after x out.end) w) ∙ sym one.queued.broken ∙ e))
    by (Some kept) w =
        let same : at.broken ≡ Some fault = w ∙ sym (ap (λ (x : Option ServerFault). broken_after x out.end) w) ∙ sym one.queued.broken ∙ e in
        keeps_so fault at next next.seen.left next.seen.waits next.seen.moves (one.kept kept w).0 (so fault same)

breaks_on : (at : Place) (step : Step) (out : Outcome) (next : Place) → Plays_exchange at step out next → BreaksSo at → BreaksSo next
breaks_on at step out next one so fault e =
    let s = one.settles in
    settled_refutes fault at step one.told out one.call.own one.left_at next s
    (left_refutes fault step.call one.call.own one.told.end one.ended_at one.left_at one.leaves (called_on at step one.told one.ended_at one.call one.lawful so fault (sym (s.broken ∙ left_broken step.call one.call.own one.told.end one.ended_at one.left_at one.leaves) ∙ e)))

breaks_in : (at : Place) (steps : List Step) (outs : List Outcome) (last : Place) → Plays_exchanges at steps outs last → BreaksSo at → BreaksSo last
breaks_in at [] [] last run so = subst BreaksSo (sym run) so
breaks_in at [] (o ∷ outs) last run so = absurd run
breaks_in at (s ∷ steps) [] last run so = absurd run
breaks_in at (s ∷ steps) (o ∷ outs) last run so = breaks_in run.0 steps outs last run.2 (breaks_on at s o run.0 run.1 so)

-- what is learnt is no matter
breaks_begun : (at : Place) (learnt : Learnt) → BreaksSo at → BreaksSo (begun_at at learnt)
breaks_begun at learnt so fault e = by fault (so fault e)
  where
    stands : (front : Frame) → IsFront at front → IsFront (begun_at at learnt) front
    stands front is = record { rest = is.rest; whole = is.whole; answers = is.answers; held = is.held }

    by : (fault : ServerFault) → Refutes fault at → Refutes fault (begun_at at learnt)
    by (faults.Unlawful tag) (front, is, never) = (front, stands front is, never)
    by (faults.Malformed tag) (inl malformed) = inl malformed
    by (faults.Malformed tag) (inr (front, is, none)) = inr (front, stands front is, none)
    by _ h = h

breaks_all : (at : Place) (steps : List Step) (outs : List Outcome) (last : Place) → Plays_from at steps outs last → BreaksSo at → BreaksSo last
breaks_all at [] [] last run so = subst BreaksSo (sym run) so
breaks_all at [] (o ∷ outs) last run so = absurd run
breaks_all at (s ∷ steps) [] last run so = absurd run
breaks_all at (s ∷ steps) (o ∷ outs) last run so = breaks_all run.0 steps outs last run.2 (breaks_in (begun_at at run.1.learnt) run.1.exchanges run.1.outs run.0 run.1.run (breaks_begun at run.1.learnt so))

-- from a place that is whole
pub breaks_first : (at : Place) (steps : List Step) (outs : List Outcome) (last : Place) → Plays_from at steps outs last → at.broken ≡ None → BreaksSo last
breaks_first at steps outs last run w = breaks_all at steps outs last run (λ fault x. absurd (none_broken at.broken fault w x))

-- ---- an end by a fault of the server

-- it breaks the connection
call_breaks : (at : Place) (step : Step) (out : Outcome) (next : Place) → Plays_call at step out next → (fault : ServerFault) → out.end ≡ ends.Err (errors.Protocol (protocol.Server fault)) → next.broken ≡ Some fault
call_breaks at step out next one fault e = by at.broken refl
  where
    by : (o : Option ServerFault) → at.broken ≡ o → next.broken ≡ Some fault
    by None w = one.queued.broken ∙ ap (λ (x : Option ServerFault). broken_after x out.end) w ∙ ap (broken_after None) e
    by (Some kept) w = one.queued.broken ∙ ap (λ (x : Option ServerFault). broken_after x out.end) w ∙ ap (λ (x : ServerFault). Some x) (sym ((one.kept kept w).1 fault e))

pub fault_breaks : (at : Place) (step : Step) (out : Outcome) (next : Place) → Plays_exchange at step out next → (fault : ServerFault) → out.end ≡ ends.Err (errors.Protocol (protocol.Server fault)) → next.broken ≡ Some fault
fault_breaks at step out next one fault e = one.settles.broken ∙ left_broken step.call one.call.own one.told.end one.ended_at one.left_at one.leaves ∙ call_breaks at step one.told one.ended_at one.call fault (sym (ap (λ (x : Outcome). x.end) one.settles.outcome) ∙ e)

-- what breaks the connection stays
pub broken_in : (fault : ServerFault) (at : Place) (steps : List Step) (outs : List Outcome) (last : Place) → Plays_exchanges at steps outs last → at.broken ≡ Some fault → last.broken ≡ Some fault
broken_in fault at [] [] last run w = ap (λ (p : Place). p.broken) run ∙ w
broken_in fault at [] (o ∷ outs) last run w = absurd run
broken_in fault at (s ∷ steps) [] last run w = absurd run
broken_in fault at (s ∷ steps) (o ∷ outs) last run w = broken_in fault run.0 steps outs last run.2 (run.1.settles.broken ∙ left_broken s.call run.1.call.own run.1.told.end run.1.ended_at run.1.left_at run.1.leaves ∙ run.1.call.queued.broken ∙ ap (λ (x : Option ServerFault). broken_after x run.1.told.end) w)

pub broken_stays : (fault : ServerFault) (at : Place) (steps : List Step) (outs : List Outcome) (last : Place) → Plays_from at steps outs last → at.broken ≡ Some fault → last.broken ≡ Some fault
broken_stays fault at [] [] last run w = ap (λ (p : Place). p.broken) run ∙ w
broken_stays fault at [] (o ∷ outs) last run w = absurd run
broken_stays fault at (s ∷ steps) [] last run w = absurd run
broken_stays fault at (s ∷ steps) (o ∷ outs) last run w = broken_stays fault run.0 steps outs last run.2 (broken_in fault (begun_at at run.1.learnt) run.1.exchanges run.1.outs run.0 run.1.run w)

-- the last exchange breaks it
ends_break : (fault : ServerFault) (before : Outcome) (at : Place) (steps : List Step) (outs : List Outcome) (last : Place) → Plays_exchanges at steps outs last → (before.end ≡ ends.Err (errors.Protocol (protocol.Server fault)) → at.broken ≡ Some fault)
    → (last_of before outs).end ≡ ends.Err (errors.Protocol (protocol.Server fault)) → last.broken ≡ Some fault
ends_break fault before at [] [] last run b e = ap (λ (p : Place). p.broken) run ∙ b e
ends_break fault before at [] (o ∷ outs) last run b e = absurd run
ends_break fault before at (s ∷ steps) [] last run b e = absurd run
ends_break fault before at (s ∷ steps) (o ∷ outs) last run b e = ends_break fault o run.0 steps outs last run.2 (fault_breaks at s o run.0 run.1 fault) e

-- a step has an exchange
pub some_first : (at : Place) (step : Step) (out : Outcome) (learnt : Learnt) → FirstIs at step out learnt [] → ⊥
some_first at step out learnt e = e

step_breaks : (at : Place) (step : Step) (out : Outcome) (next : Place) → Plays_step at step out next → (fault : ServerFault) → out.end ≡ ends.Err (errors.Protocol (protocol.Server fault)) → next.broken ≡ Some fault
step_breaks at step out next one fault e = by one.exchanges one.outs one.run one.first (sym one.tells.ends ∙ e)
  where
    by : (xs : List Step) (ys : List Outcome) → Plays_exchanges (begun_at at one.learnt) xs ys next → FirstIs at step out one.learnt xs → (last_of out ys).end ≡ ends.Err (errors.Protocol (protocol.Server fault)) → next.broken ≡ Some fault
    by [] ys run first e = absurd (some_first at step out one.learnt first)
    by (x ∷ xs) [] run first e = absurd run
    by (x ∷ xs) (y ∷ ys) run first e = ends_break fault y run.0 xs ys next run.2 (fault_breaks (begun_at at one.learnt) x y run.0 run.1 fault) e

breaks_last : (at : Place) (step : Step) (out : Outcome) (next : Place) → Plays_step at step out next → (steps : List Step) (outs : List Outcome) (last : Place) → Plays_from next steps outs last
    → (fault : ServerFault) → out.end ≡ ends.Err (errors.Protocol (protocol.Server fault)) → last.broken ≡ Some fault
breaks_last at step out next one steps outs last run fault e = broken_stays fault next steps outs last run (step_breaks at step out next one fault e)

-- where the last place isn't broken so, no step is told so
none_by : (at : Place) (steps : List Step) (outs : List Outcome) (last : Place) → Plays_from at steps outs last → ((tag : ℕ) → last.broken ≡ Some (faults.Unlawful tag) → ⊥) → NoneUnlawful outs
none_by at [] [] last run n = tt
none_by at [] (o ∷ outs) last run n = absurd run
none_by at (s ∷ steps) [] last run n = absurd run
none_by at (s ∷ steps) (o ∷ outs) last run n = (
  λ tag e. n tag (breaks_last at s o run.0 run.1 steps outs last run.2 (faults.Unlawful tag) e),
  none_by run.0 steps outs last run.2 n,
)

-- ---- the frame in front is the next one read

pub front_read : (at : Place) (read : List Frame) (rest : List ℕ) (front : Frame) (after : List ℕ) → AllByRecursion (IsWhole backend_tags) at.frames → Cuts backend_tags (text_of at.frames ++ at.seen.held) read rest → IsWhole backend_tags front → at.seen.held ≡ bytes_of front ++ after → IsPrefixOf (at.frames ++ front ∷ []) read
front_read at read rest front after w c f h =
    let t = cut_after_taken backend_tags (text_of at.frames ++ at.seen.held) at.seen.held at.frames read rest w refl c in
    let u = cut_after_taken backend_tags at.seen.held after (front ∷ []) t.0 rest (f, tt) (h ∙ ap (λ (x : List ℕ). x ++ after) (sym (append-nil (bytes_of front)))) t.2 in
    (u.0, append_assoc at.frames (front ∷ []) u.0 ∙ ap (λ (x : List Frame). at.frames ++ x) (sym u.1) ∙ sym t.1)

prefix_heard : (xs ys : List Frame) → IsPrefixOf xs ys → IsPrefixOf (heard xs) (heard ys)
prefix_heard xs ys p = (heard p.0, sym (heard-append xs p.0) ∙ ap heard p.1)

pub front_heard : (at : Place) (read : List Frame) (rest : List ℕ) (front : Frame) → AllByRecursion (IsWhole backend_tags) at.frames → Cuts backend_tags (text_of at.frames ++ at.seen.held) read rest → IsFront at front → IsPrefixOf (heard at.frames ++ front ∷ []) (heard read)
front_heard at read rest front w c f =
    let one : heard (front ∷ []) ≡ front ∷ [] = rw f.answers refl in
    subst (λ (x : List Frame). IsPrefixOf x (heard read)) (heard-append at.frames (front ∷ []) ∙ ap (λ (x : List Frame). heard at.frames ++ x) one) (prefix_heard (at.frames ++ front ∷ []) read (front_read at read rest front f.rest w c f.whole f.held))

pub taken_heard : (at : Place) (read : List Frame) (rest : List ℕ) → AllByRecursion (IsWhole backend_tags) at.frames → Cuts backend_tags (text_of at.frames ++ at.seen.held) read rest → IsPrefixOf (heard at.frames) (heard read)
taken_heard at read rest w c =
    let t = cut_after_taken backend_tags (text_of at.frames ++ at.seen.held) at.seen.held at.frames read rest w refl c in
    prefix_heard at.frames read (t.0, sym t.1)

-- ---- where the frames heard are replies

-- the groups alone are said, and all that was read may answer them
pub hears_groups : (last : Place) (sent read : List Frame) (rest : List ℕ) → AllByRecursion HasFrontendFrame last.said → AllByRecursion (IsWhole backend_tags) last.frames → (AsksForNoCopy (heard last.frames) → last.said ≡ said_in last.groups)
    → IsPrefixOf sent (map frontend_frame last.said) → Cuts backend_tags (text_of last.frames ++ last.seen.held) read rest → AreReplies sent (heard read) → (last.said ≡ said_in last.groups) × MayHear (said_in last.groups) (heard read)
hears_groups last sent read rest can whole plain p c r =
    let may = replies_answer last.said sent (heard read) can p r in
    let none = all_prefix StartsNoCopy (heard last.frames) (heard read) (taken_heard last read rest whole c) (replies_start_no_copy last.said (heard read) may) in
    let alone = plain (asks_for_none (heard last.frames) none) in
    (alone, subst (λ (x : List FrontendMessage). MayHear x (heard read)) alone may)

pub unlawful_refuted : (last : Place) (read : List Frame) (rest : List ℕ) (tag : ℕ) → AllByRecursion (IsWhole backend_tags) last.frames → Cuts backend_tags (text_of last.frames ++ last.seen.held) read rest → AllByRecursion IsGroup last.groups → MayHear (said_in last.groups) (heard read) → Refutes (faults.Unlawful tag) last → ⊥
unlawful_refuted last read rest tag whole c groups may r = r.2 groups (hear_fewer (said_in last.groups) _ (heard read) (front_heard last read rest r.0 whole c r.1) may)

pub where_lawful : (first last : Place) (steps : List Step) (outs : List Outcome) → Plays_from first steps outs last → first.broken ≡ None → AllByRecursion HasFrontendFrame last.said → AllByRecursion (IsWhole backend_tags) last.frames
    → (AsksForNoCopy (heard last.frames) → last.has_failed ≡ false → last.said ≡ said_in last.groups) → Keeps last → WhereLawful last outs
where_lawful first last steps outs run w can whole plain kept unfailed groups sent read rest p c r =
    let hears = hears_groups last sent read rest can whole (λ h. plain h unfailed) p c r in
    let alone = hears.0 in
    let taken = taken_heard last read rest whole c in
    let can_groups = subst (AllByRecursion HasFrontendFrame) alone can in
    let all = replies_to_all (said_in last.groups) sent (heard read) can_groups (subst (λ (x : List FrontendMessage). IsPrefixOf sent (map frontend_frame x)) alone p) r in
    let answered = frames_answer last.groups (heard last.frames) groups can_groups (replies_fewer (map frontend_frame (said_in last.groups)) (heard last.frames) (heard read) taken all) in
    record {
      plain = alone;
      answers = record { responses = answered.0; after = answered.1; answers = answered.2; have_frames = answered.3; pieces = answered.4 };
      keeps = names_kept last answered.0 answered.1 groups kept answered.2 answered.3 answered.4;
      none_unlawful = none_by first steps outs last run (λ tag e. unlawful_refuted last read rest tag whole c groups hears.1 (breaks_first first steps outs last run w (faults.Unlawful tag) e));
    }

-- ---- the numbers of all steps

-- a sum begins with its first number
pub sum_more : (f : Outcome → ℕ) (out : Outcome) (outs : List Outcome) → sum_by f (out ∷ outs) ≡ f out + sum_by f outs
sum_more f out outs = sum_by-append f (out ∷ []) outs ∙ omega arith

totals_none : (at : Place) → Totals at.seen.link at.seen.link []
totals_none at = record {
  write_waits = 0;
  read_waits = 0;
  moves = 0;
  waits = (omega arith, omega arith);
  moved = (omega arith, omega arith);
  writes = omega arith;
  reads = omega arith;
  moving = omega arith;
}

-- numbers that count so many in sum
counts_more : (n m k l sum : ℕ) → sum ≡ k + l → CountsTo n k → CountsTo m l → CountsTo (n + m) sum
counts_more n m k l sum e g h = (omega (arith, e, g.0, h.0), omega (arith, e, g.1, h.1))

-- what exchanges waited and moved, exactly
record SumsTo (a b : LinkSeen) (waits moved : ℕ) : Type 0 where
  write_waits : ℕ
  read_waits : ℕ
  all : write_waits + read_waits ≡ waits
  writes : GrewBy write_waits a.write_waits b.write_waits
  reads : GrewBy read_waits a.read_waits b.read_waits
  moving : GrewBy moved a.moved b.moved

sums_none : (a : LinkSeen) → SumsTo a a 0 0
sums_none a = record { write_waits = 0; read_waits = 0; all = omega arith; writes = omega arith; reads = omega arith; moving = omega arith }

sums_more : (at next mid : Place) (step : Step) (told out : Outcome) (outs : List Outcome) → Plays_call at step told mid → out ≡ record told { groups = out.groups; cache = out.cache } → SumsTo mid.seen.link next.seen.link (sum_by (λ o. o.waits) outs) (sum_by (λ o. o.moved) outs)
    → SumsTo at.seen.link next.seen.link (sum_by (λ o. o.waits) (out ∷ outs)) (sum_by (λ o. o.moved) (out ∷ outs))
sums_more at next mid step told out outs one e t =
    let n = one.numbers in
    let waits : out.waits ≡ n.write_waits + n.read_waits = ap (λ (x : Outcome). x.waits) e ∙ n.waits in
    let moved : out.moved ≡ n.moves = ap (λ (x : Outcome). x.moved) e ∙ n.moved in
    record {
      write_waits = n.write_waits + t.write_waits;
      read_waits = n.read_waits + t.read_waits;
      all = omega (arith, waits, t.all, sum_more (λ (o : Outcome). o.waits) out outs);
      writes = GrewBy-then _ _ _ _ _ _ n.writes t.writes refl;
      reads = GrewBy-then _ _ _ _ _ _ n.reads t.reads refl;
      moving = GrewBy-then _ _ _ _ _ _ n.moving t.moving (omega (arith, moved, sum_more (λ (o : Outcome). o.moved) out outs));
    }

sums_in : (at : Place) (steps : List Step) (outs : List Outcome) (last : Place) → Plays_exchanges at steps outs last → SumsTo at.seen.link last.seen.link (sum_by (λ o. o.waits) outs) (sum_by (λ o. o.moved) outs)
sums_in at [] [] last run = subst (λ (p : Place). SumsTo at.seen.link p.seen.link 0 0) (sym run) (sums_none at.seen.link)
sums_in at [] (o ∷ outs) last run = absurd run
sums_in at (s ∷ steps) [] last run = absurd run
sums_in at (s ∷ steps) (o ∷ outs) last run =
    let one = run.1 in
    let link = ap (λ (x : StreamSeen). x.link) one.settles.seen ∙ left_link s.call one.call.own one.told.end one.ended_at one.left_at one.leaves in
    sums_more at last one.ended_at s one.told o outs one.call one.settles.outcome (subst (λ (x : LinkSeen). SumsTo x last.seen.link (sum_by (λ o. o.waits) outs) (sum_by (λ o. o.moved) outs)) link (sums_in run.0 steps outs last run.2))

-- a sum that is told exactly, and one that is counted
counts_same : (n m : ℕ) → m ≡ n → CountsTo n m
counts_same n m e = (omega (arith, e), omega (arith, e))

totals_more : (at next last : Place) (told : List Outcome) (out : Outcome) (outs : List Outcome) → TellsAll told out → SumsTo at.seen.link next.seen.link (sum_by (λ o. o.waits) told) (sum_by (λ o. o.moved) told) → Totals next.seen.link last.seen.link outs → Totals at.seen.link last.seen.link (out ∷ outs)
totals_more at next last told out outs tells n t =
    let first : CountsTo (n.write_waits + n.read_waits) out.waits = counts_same (n.write_waits + n.read_waits) out.waits (tells.waits ∙ sym n.all) in
    let both : CountsTo ((n.write_waits + n.read_waits) + (t.write_waits + t.read_waits)) (sum_by (λ o. o.waits) (out ∷ outs)) = counts_more _ _ _ _ _ (sum_more (λ (o : Outcome). o.waits) out outs) first t.waits in
    record {
      write_waits = n.write_waits + t.write_waits;
      read_waits = n.read_waits + t.read_waits;
      moves = sum_by (λ (o : Outcome). o.moved) told + t.moves;
      waits = subst (λ (k : ℕ). CountsTo k (sum_by (λ o. o.waits) (out ∷ outs))) (omega arith) both;
      moved = counts_more _ _ _ _ _ (sum_more (λ (o : Outcome). o.moved) out outs) tells.moved t.moved;
      writes = GrewBy-then _ _ _ _ _ _ n.writes t.writes refl;
      reads = GrewBy-then _ _ _ _ _ _ n.reads t.reads refl;
      moving = GrewBy-then _ _ _ _ _ _ n.moving t.moving refl;
    }

pub totals_all : (at : Place) (steps : List Step) (outs : List Outcome) (last : Place) → Plays_from at steps outs last → Totals at.seen.link last.seen.link outs
totals_all at [] [] last run = subst (λ (p : Place). Totals at.seen.link p.seen.link []) (sym run) (totals_none at)
totals_all at [] (o ∷ outs) last run = absurd run
totals_all at (s ∷ steps) [] last run = absurd run
totals_all at (s ∷ steps) (o ∷ outs) last run =
    let one = run.1 in
    totals_more at run.0 last one.outs o outs one.tells (sums_in (begun_at at one.learnt) one.exchanges one.outs run.0 one.run) (totals_all run.0 steps outs last run.2)
