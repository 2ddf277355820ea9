-- Where neither the link nor the server failed, no step ends by a failure of theirs.
use Rattle.std.proofs.Common.{◌≡◌, ◌⊎◌, ℕ, zero, suc, Bool, true, false, inl, inr, List, [], ◌∷◌, ◌++◌, length, refl, sym, ap, ◌∙◌, subst, append_assoc, append-nil, Option, Some, None, arith}
use Rattle.std.specs.List.{AllByRecursion}
use Rattle.std.proofs.lemmas.Option.{same_Some}
use Rattle.pg_wire.specs.declared.error.Error.{Error}
use Rattle.pg_wire.specs.declared.error.Error.TheVariants as errors
use Rattle.pg_wire.specs.declared.error.IoCause.TheVariants as io
use Rattle.pg_wire.specs.declared.error.ProtocolFault.TheVariants as protocol
use Rattle.pg_wire.specs.declared.error.ServerFault.{ServerFault}
use Rattle.pg_wire.specs.declared.error.ServerFault.TheVariants as faults
use Rattle.pg_wire.specs.declared.front.Cut.TheVariants.{Short, Unknown}
use Rattle.pg_wire.specs.Frame.{Frame, text_of, backend_tags, IsWhole}
use Rattle.pg_wire.specs.Cut.{BeginsNoFrame, Cuts}
use Rattle.pg_wire.specs.Parts.{heard, is_asynchronous}
use Rattle.pg_wire.specs.Frontend.{HasFrontendFrame}
use Rattle.pg_wire.specs.Backend.{BackendMessage, backend_frame, CopyInResponse, CopyOutResponse}
use Rattle.pg_wire.specs.Server.{IsPrefixOf, MayHear}
use Rattle.pg_wire.proofs.CutLaws.{cut_unique, cut_after_taken}
use Rattle.pg_wire.proofs.HeaderLaws.{none_front}
use Rattle.pg_wire.proofs.RunLaws.{prefix_trans}
use Rattle.pg_stream.specs.Links.{LinkSeen, NoneFalls, Rose}
use Rattle.pg_stream.specs.Streams.{HeaderFault, StreamSeen}
use Rattle.pg_stream.specs.Asynchronous.{IsSaid}
use Rattle.pg_stream.proofs.Known.{NoneFalls-refl, NoneFalls-then}
use Rattle.pg_call.specs.Requests.{Group, said_in, width_of}
use Rattle.pg_report.specs.declared.outcome.End.{End}
use Rattle.pg_report.specs.declared.outcome.End.TheVariants as ends
use Rattle.pg_report.specs.declared.outcome.Outcome.{Outcome}
use Rattle.pg_script.specs.declared.step.Step.{Step}
use Rattle.pg_play.specs.Places.{Place}
use Rattle.pg_play.specs.Settling.{handed_at}
use Rattle.pg_play.specs.Causes.{IsAskedToCopy, Causes, IsDropped, IsDroppedAs, HasCause}
use Rattle.pg_play.specs.Complete.{IsFaultless, IsFairError, WasCutShort, IsGivenUp, IsFairEnd, EndFairly, WhereFaultless}
use Rattle.pg_script.specs.declared.step.Call.{Call}
use Rattle.pg_rule.specs.declared.rule.Rule.{Rule}
use Rattle.pg_play.proofs.ExchangeLaws.{IsOf, first_is_of, next_is_of, wants_so, before_is_of, named_call}
use Rattle.pg_play.proofs.SettleLaws.{left_frames, left_link}
use Rattle.pg_play.specs.Plays.{Plays_call, Plays_exchange, Plays_exchanges, last_of, FirstIs, Hands, HandsOn, Plays_step, Plays_from, AsksForNoCopy, BeginsAs, begun_at, known_at}
use Rattle.pg_call.specs.Replies.{awaits_first, awaits_run, begins_copy}
use Rattle.pg_call.proofs.RefusedLaws.{IsPlain, closing_plain, copies_begin, plain_after}
use Rattle.pg_script.specs.declared.step.Call.TheVariants as calls
use Rattle.pg_script.specs.declared.step.Parting.{Parting}
use Rattle.pg_script.specs.declared.step.Parting.TheVariants as partings
use Rattle.pg_call.specs.declared.request.Request.{Request}
use Rattle.pg_conn.specs.Statements.{asked_by}
use Rattle.pg_report.specs.declared.outcome.Answer.TheVariants.{Unit as AnswersUnit}
use Rattle.pg_play.specs.Shown.{ComesBehind, LooksOn, parting_of, request_of, copies, exchange_for, handed_by, next_call, first_call}
use Rattle.pg_play.proofs.RepliesLaws.{starts_copy, StartsNoCopy, all_prefix, replies_start_no_copy, replies_are_said}
use Rattle.pg_play.proofs.LinkLaws.{Refutes, breaks_first, fault_breaks, broken_in, broken_stays, some_first, front_read, front_heard, taken_heard, hears_groups, unlawful_refuted}
use Rattle.pg_wire.proofs.Each.{each_last}
use Rattle.pg_learning.specs.declared.learnt.Learnt.{Learnt}
use Rattle.pg_conn.specs.Looking.{named_in}
use Rattle.pg_play.proofs.ThroughLaws.{named_is}

-- ---- lists

-- what is known of all of a list is known of the last of its first ones
at_front : {A : Type 0} (P : A → Type 0) (xs : List A) (x : A) (ys : List A) → IsPrefixOf (xs ++ x ∷ []) ys → AllByRecursion P ys → P x
at_front P xs x ys p h = (each_last P xs (x ∷ p.0) (subst (AllByRecursion P) (sym p.1 ∙ append_assoc xs (x ∷ []) p.0) h)).0

-- ---- from each step to the last place

counts_in : (at : Place) (steps : List Step) (outs : List Outcome) (last : Place) → Plays_exchanges at steps outs last → NoneFalls at.seen.link last.seen.link
counts_in at [] [] last run = subst (λ (p : Place). NoneFalls at.seen.link p.seen.link) (sym run) (NoneFalls-refl at.seen.link)
counts_in at [] (o ∷ outs) last run = absurd run
counts_in at (s ∷ steps) [] last run = absurd run
counts_in at (s ∷ steps) (o ∷ outs) last run = NoneFalls-then at.seen.link run.0.seen.link last.seen.link run.1.counts (counts_in run.0 steps outs last run.2)

counts_on : (at : Place) (steps : List Step) (outs : List Outcome) (last : Place) → Plays_from at steps outs last → NoneFalls at.seen.link last.seen.link
counts_on at [] [] last run = subst (λ (p : Place). NoneFalls at.seen.link p.seen.link) (sym run) (NoneFalls-refl at.seen.link)
counts_on at [] (o ∷ outs) last run = absurd run
counts_on at (s ∷ steps) [] last run = absurd run
counts_on at (s ∷ steps) (o ∷ outs) last run = NoneFalls-then at.seen.link run.0.seen.link last.seen.link (counts_in (begun_at at run.1.learnt) run.1.exchanges run.1.outs run.0 run.1.run) (counts_on run.0 steps outs last run.2)

heard_still : (at last : Place) → last ≡ at → IsPrefixOf (heard at.frames) (heard last.frames)
heard_still at last run = ([], append-nil (heard at.frames) ∙ sym (ap (λ (p : Place). heard p.frames) run))

heard_in : (at : Place) (steps : List Step) (outs : List Outcome) (last : Place) → Plays_exchanges at steps outs last → IsPrefixOf (heard at.frames) (heard last.frames)
heard_in at [] [] last run = heard_still at last run
heard_in at [] (o ∷ outs) last run = absurd run
heard_in at (s ∷ steps) [] last run = absurd run
heard_in at (s ∷ steps) (o ∷ outs) last run = prefix_trans (heard at.frames) (heard run.0.frames) (heard last.frames) (run.1.call.slice, sym run.1.call.queued.taken ∙ sym (ap heard (run.1.settles.frames ∙ left_frames s.call run.1.call.own run.1.told.end run.1.ended_at run.1.left_at run.1.leaves))) (heard_in run.0 steps outs last run.2)

heard_on : (at : Place) (steps : List Step) (outs : List Outcome) (last : Place) → Plays_from at steps outs last → IsPrefixOf (heard at.frames) (heard last.frames)
heard_on at [] [] last run = heard_still at last run
heard_on at [] (o ∷ outs) last run = absurd run
heard_on at (s ∷ steps) [] last run = absurd run
heard_on at (s ∷ steps) (o ∷ outs) last run = prefix_trans (heard at.frames) (heard run.0.frames) (heard last.frames) (heard_in (begun_at at run.1.learnt) run.1.exchanges run.1.outs run.0 run.1.run) (heard_on run.0 steps outs last run.2)

-- ---- the last place isn't broken

header_front : (bytes : List ℕ) (fault : ServerFault) → HeaderFault bytes fault → BeginsNoFrame backend_tags bytes
header_front bytes (faults.ShortLength tag size) h = none_front bytes (Short tag size) tt h
header_front bytes (faults.UnknownTag tag) h = none_front bytes (Unknown tag) tt h
header_front bytes _ h = absurd h

-- a header that no frame has stands behind all whole frames
header_rest : (at : Place) (read : List Frame) (rest : List ℕ) (fault : ServerFault) → AllByRecursion (IsWhole backend_tags) at.frames → Cuts backend_tags (text_of at.frames ++ at.seen.held) read rest → HeaderFault at.seen.held fault → HeaderFault rest fault
header_rest at read rest fault w c h =
    let t = cut_after_taken backend_tags (text_of at.frames ++ at.seen.held) at.seen.held at.frames read rest w refl c in
    let none : Cuts backend_tags at.seen.held [] at.seen.held = record { text = refl; whole = tt; over = header_front at.seen.held fault h } in
    subst (λ (b : List ℕ). HeaderFault b fault) (sym (cut_unique backend_tags at.seen.held t.0 [] rest at.seen.held t.2 none).1) h

refuted : (first : LinkSeen) (last : Place) (sent read : List Frame) (rest : List ℕ) (fault : ServerFault) → IsFaultless first last sent read rest → AllByRecursion (IsWhole backend_tags) last.frames → MayHear (said_in last.groups) (heard read) → Refutes fault last → ⊥
refuted first last sent read rest (faults.Unlawful tag) g whole may r = unlawful_refuted last read rest tag whole g.cuts g.uncopied.1 may r
refuted first last sent read rest (faults.Malformed tag) g whole may (inl m) =
    let said = at_front (λ frame. is_asynchronous frame ≡ true → IsSaid frame) last.frames m.frame read (front_read last read rest m.frame m.rest whole g.cuts m.whole m.parts) g.asides m.asynchronous in
    m.refused said.0 said.1
refuted first last sent read rest (faults.Malformed tag) g whole may (inr m) =
    let said = at_front IsSaid (heard last.frames) m.0 (heard read) (front_heard last read rest m.0 whole g.cuts m.1) (replies_are_said (said_in last.groups) (heard read) may) in
    m.2 said.0 said.1.0 said.1.1
refuted first last sent read rest fault g whole may r = g.headers fault (header_rest last read rest fault whole g.cuts r)

-- ---- what holds of the last place

record Holds (first : LinkSeen) (last : Place) : Type 0 where
  no_fault : Rose first.faults last.seen.link.faults → ⊥
  no_end : Rose first.ends last.seen.link.ends → ⊥
  unbroken : (fault : ServerFault) → last.broken ≡ Some fault → ⊥
  no_copy : AllByRecursion StartsNoCopy (heard last.frames)

-- ---- one exchange

starts : (m : BackendMessage) → begins_copy m ≡ true → starts_copy (backend_frame m) ≡ true
starts (CopyInResponse format columns) e = refl
starts (CopyOutResponse format columns) e = refl
starts _ e = absurd cc

-- what asks for no copy awaits none
plays_plain : (d : ℕ) (call : Call) → copies call ≡ false → IsPlain (awaits_first (request_of d call))
plays_plain d (calls.CopyOut query) n = absurd cc
plays_plain d (calls.Feed fed) n = absurd cc
plays_plain zero calls.Commit n = tt
plays_plain (suc d) calls.Commit n = tt
plays_plain zero calls.Rollback n = tt
plays_plain (suc d) calls.Rollback n = tt
plays_plain d (calls.CloseAll statements) n = closing_plain (length statements)
plays_plain d (calls.Run bound) n = by bound.again
  where
    by : (again : Option (List ℕ)) → IsPlain (awaits_run (width_of bound) again)
    by None = tt
    by (Some sql) = tt
plays_plain d _ n = tt

no_copy_asked : (at : Place) (step : Step) (own : List Group) (slice : List Frame) (tag : ℕ) → copies step.call ≡ false → IsAskedToCopy at step own slice tag → AllByRecursion StartsNoCopy slice → ⊥
no_copy_asked at step own slice tag f c n =
    let last : starts_copy (backend_frame c.last) ≡ false = at_front StartsNoCopy c.front (backend_frame c.last) slice ([], append-nil (c.front ++ backend_frame c.last ∷ []) ∙ sym c.slice_is) n in
    let plain = plain_after (awaits_first (request_of at.rule.depth step.call)) c.part c.before (plays_plain at.rule.depth step.call f) c.so_far in
    let begun = starts c.last (copies_begin c.part c.last plain c.copies) in
    absurd cc

fair_error : (first : LinkSeen) (at : Place) (call : Call) (step : Step) (own : List Group) (slice : List Frame) (next last : Place) (e : Error) → IsOf call step.call → Holds first last → NoneFalls first at.seen.link → NoneFalls next.seen.link last.seen.link → AllByRecursion StartsNoCopy slice
    → ((fault : ServerFault) → e ≡ errors.Protocol (protocol.Server fault) → last.broken ≡ Some fault) → Causes at step own slice next e → IsFairError call e
fair_error first at call step own slice next last errors.OutOfMemory part g a b n k c = tt
fair_error first at call step own slice next last (errors.Io io.Fault) part g a b n k c = absurd (g.no_fault (omega (arith, a.faults, b.faults, c)))
fair_error first at call step own slice next last (errors.Io io.End) part g a b n k c = absurd (g.no_end (omega (arith, a.ends, b.ends, c.0)))
fair_error first at call step own slice next last (errors.Io _) part g a b n k c = absurd c
fair_error first at call step own slice next last (errors.Database details) part g a b n k c = tt
fair_error first at call step own slice next last (errors.Protocol (protocol.Server fault)) part g a b n k c = absurd (g.unbroken fault (k fault refl))
fair_error first at call step own slice next last (errors.Protocol (protocol.Reply tag)) part g a b n k c = by (copies step.call) refl
  where
    by : (b : Bool) → copies step.call ≡ b → copies call ≡ true
    by true e = part.copies e
    by false e = absurd (no_copy_asked at step own slice tag e c n)
fair_error first at call step own slice next last (errors.Protocol (protocol.Caller fault)) part g a b n k c = (at.rule.depth, step.call, part.is_part, c.2)
fair_error first at call step own slice next last (errors.BeginFailed status) part g a b n k c = (part.opens c.begins_it, c.other)
fair_error first at call step own slice next last errors.InvalidSavePointStatement part g a b n k c = part.opens_with c.0.0
fair_error first at call step own slice next last (errors.Protocol (protocol.Types oids)) part g a b n k c = (at.rule.depth, step.call, c.0, part.is_part, c.1)
fair_error first at call step own slice next last (errors.ColumnDecode place) part g a b n k c = (at.rule.depth, step.call, c.0, part.is_part, c.1)
fair_error first at call step own slice next last (errors.TypeNotFound name) part g a b n k c = (at.rule.depth, step.call, c.0, part.is_part, c.1)
fair_error first at call step own slice next last errors.RowNotFound part g a b n k c = part.wants (wants_so step.call c.wants)
fair_error first at call step own slice next last _ part g a b n k c = absurd c

cut_short : (at : Place) (step : Step) (out : Outcome) (next : Place) → IsDropped at step out next → WasCutShort step out ⊎ IsGivenUp (parting_of step.call)
cut_short at step out next = by (parting_of step.call)
  where
    by : (q : Parting) → IsDroppedAs q at step out next → WasCutShort step out ⊎ IsGivenUp q
    by partings.None (inl (inl none)) = inl (inl (omega (arith, none)))
    by partings.None (inl (inr none)) = inl (inr (omega (arith, none)))
    by partings.None (inr (inl w)) = let often = w.0 in inl (inl (omega (arith, often.1, often.2)))
    by partings.None (inr (inr most)) = inl (inr (omega (arith, most)))
    by partings.Left d = inr tt
    by partings.Unsaid d = inr tt
    by (partings.Failed message) d = inr tt

-- ---- all steps

slice_copies : (at : Place) (step : Step) (out : Outcome) (next last : Place) (one : Plays_call at step out next) → IsPrefixOf (heard next.frames) (heard last.frames) → AllByRecursion StartsNoCopy (heard last.frames) → AllByRecursion StartsNoCopy one.slice
slice_copies at step out next last one p n = each_last StartsNoCopy (heard at.frames) one.slice (subst (AllByRecursion StartsNoCopy) one.queued.taken (all_prefix StartsNoCopy (heard next.frames) (heard last.frames) p n))

-- what lies behind the exchanges of a step, up to the last place of the play
record LeadsTo (next last : Place) : Type 0 where
  counts : NoneFalls next.seen.link last.seen.link
  heard_so : IsPrefixOf (heard next.frames) (heard last.frames)
  broken : (fault : ServerFault) → next.broken ≡ Some fault → last.broken ≡ Some fault

leads_on : (next : Place) (steps : List Step) (outs : List Outcome) (last : Place) → Plays_from next steps outs last → LeadsTo next last
leads_on next steps outs last run = record { counts = counts_on next steps outs last run; heard_so = heard_on next steps outs last run; broken = λ fault w. broken_stays fault next steps outs last run w }

leads_in : (at : Place) (steps : List Step) (outs : List Outcome) (next last : Place) → Plays_exchanges at steps outs next → LeadsTo next last → LeadsTo at last
leads_in at steps outs next last run l = record {
  counts = NoneFalls-then at.seen.link next.seen.link last.seen.link (counts_in at steps outs next run) l.counts;
  heard_so = prefix_trans (heard at.frames) (heard next.frames) (heard last.frames) (heard_in at steps outs next run) l.heard_so;
  broken = λ fault w. l.broken fault (broken_in fault at steps outs next run w);
}

-- an error of an exchange is fair for its call
exchange_fair : (first : LinkSeen) (at : Place) (call : Call) (step : Step) (out : Outcome) (next last : Place) → IsOf call step.call → Holds first last → NoneFalls first at.seen.link → Plays_exchange at step out next → LeadsTo next last → (e : Error) → out.end ≡ ends.Err e → IsFairError call e
exchange_fair first at whole step out next last part g a one l e k =
    let call = one.call in
    let mid = one.ended_at in
    let told : one.told.end ≡ ends.Err e = sym (ap (λ (x : Outcome). x.end) one.settles.outcome) ∙ k in
    fair_error first at whole step call.own call.slice mid last e part g a (subst (λ (x : LinkSeen). NoneFalls x last.seen.link) (ap (λ (x : StreamSeen). x.link) one.settles.seen ∙ left_link step.call call.own one.told.end mid one.left_at one.leaves) l.counts)
    (slice_copies at step one.told mid last call (subst (λ (f : List Frame). IsPrefixOf (heard f) (heard last.frames)) (one.settles.frames ∙ left_frames step.call call.own one.told.end mid one.left_at one.leaves) l.heard_so) g.no_copy)
    (λ fault x. l.broken fault (fault_breaks at step out next one fault (k ∙ ap (λ (z : Error). ends.Err z) x)))
    (subst (λ (z : End). HasCause at step call.own call.slice mid z) told call.cause)

-- ---- the exchanges of a step are those of its call

abbrev AreOf : Call → List Step → Type 0
AreOf call steps = AllByRecursion (λ step. IsOf call step.call) steps

-- what is asked next comes behind the response
comes_behind : (at : Place) (step : Step) (out : Outcome) (next : Place) (one : Plays_exchange at step out next) (part : Call) → out.end ≡ ends.Ok AnswersUnit → next_call next.rule one.settles.asks ≡ Some part → ComesBehind next.rule step.call one.call.told.response part
comes_behind at step out next one part k e =
    let told : one.told.end ≡ ends.Ok AnswersUnit = sym (ap (λ (x : Outcome). x.end) one.settles.outcome) ∙ k in
    by (handed_by step.call one.call.told.response) refl (subst (λ (z : End). LooksOn (handed_at z step.call one.call.told.response) one.left_at.learnt one.settles.asks next.learnt) told one.settles.looks)
  where
    by : (o : Option Request) → handed_by step.call one.call.told.response ≡ o → LooksOn o one.left_at.learnt one.settles.asks next.learnt → ComesBehind next.rule step.call one.call.told.response part
    by None h none = let x = ap (next_call next.rule) (sym none.0) ∙ e in absurd cc
    by (Some told) h (asked, is, up) = (told, one.left_at.learnt, next.learnt, asked, h, up, sym (same_Some (exchange_for (asked_by next.rule asked)) part (ap (next_call next.rule) (sym is) ∙ e)))

are_of : (call : Call) (at : Place) (steps : List Step) (outs : List Outcome) (last : Place) (run : Plays_exchanges at steps outs last) (rule : Rule) (end : End) (asks : Option Request) → ((part : Call) → end ≡ ends.Ok AnswersUnit → next_call rule asks ≡ Some part → IsOf call part) → Hands rule end asks steps → HandsOn at steps outs last run → AreOf call steps
are_of call at [] outs last run rule end asks of h k = tt
are_of call at (s ∷ steps) [] last run rule end asks of h k = absurd run
are_of call at (s ∷ steps) (o ∷ outs) last run rule end asks of h k =
    let mine = of s.call h.0 h.1 in
    (mine, are_of call run.0 steps outs last run.2 run.0.rule o.end run.1.settles.asks (λ part e c. next_is_of run.0.rule call s.call part run.1.call.told.response mine (comes_behind at s o run.0 run.1 part e c)) k.0 k.1)

-- the first exchange, or what comes before it
begins_of : (at : Place) (step : Step) (o : Option Request) (groups : ℕ) (call : Call) (known learnt : Learnt) → named_in (request_of at.rule.depth (first_call at.rule step.call)) ≡ o → BeginsAs o (first_call at.rule step.call) known groups call learnt → IsOf step.call call
begins_of at step None groups call known learnt n (same, l) = subst (IsOf step.call) (sym same) (first_is_of at.rule step.call)
begins_of at step (Some x) groups call known learnt n (inl (same, l, g)) = subst (IsOf step.call) (sym same) (first_is_of at.rule step.call)
begins_of at step (Some told) groups call known learnt n (inr (next, looks, is)) =
    let r = request_of at.rule.depth (first_call at.rule step.call) in
    let first : first_call at.rule step.call ≡ exchange_for told = named_call at.rule.depth (first_call at.rule step.call) r told n refl ∙ ap exchange_for (named_is r told n) in
    subst (IsOf step.call) (sym is) (before_is_of at.rule step.call told next known learnt first looks)

all_are_of : (step : Step) (origin : Place) (out : Outcome) (learnt : Learnt) (at : Place) (steps : List Step) (outs : List Outcome) (last : Place) (run : Plays_exchanges at steps outs last) → FirstIs origin step out learnt steps → HandsOn at steps outs last run → AreOf step.call steps
all_are_of step origin out learnt at [] outs last run f k = tt
all_are_of step origin out learnt at (s ∷ steps) [] last run f k = absurd run
all_are_of step origin out learnt at (s ∷ steps) (o ∷ outs) last run f k =
    let mine = begins_of origin step (named_in (request_of origin.rule.depth (first_call origin.rule step.call))) out.groups s.call (known_at origin step) learnt refl f.0 in
    (mine, are_of step.call run.0 steps outs last run.2 run.0.rule o.end run.1.settles.asks (λ part e c. next_is_of run.0.rule step.call s.call part run.1.call.told.response mine (comes_behind at s o run.0 run.1 part e c)) k.0 k.1)

fair_in : (first : LinkSeen) (call : Call) (before : Outcome) (at : Place) (steps : List Step) (outs : List Outcome) (next last : Place) → Holds first last → NoneFalls first at.seen.link → Plays_exchanges at steps outs next → LeadsTo next last → AreOf call steps
    → ((e : Error) → before.end ≡ ends.Err e → IsFairError call e) → (e : Error) → (last_of before outs).end ≡ ends.Err e → IsFairError call e
fair_in first call before at [] [] next last g a run l parts so e k = so e k
fair_in first call before at [] (o ∷ outs) next last g a run l parts so e k = absurd run
fair_in first call before at (s ∷ steps) [] next last g a run l parts so e k = absurd run
fair_in first call before at (s ∷ steps) (o ∷ outs) next last g a run l parts so e k =
    fair_in first call o run.0 steps outs next last g (NoneFalls-then first at.seen.link run.0.seen.link a run.1.counts) run.2 l parts.1
    (λ x h. exchange_fair first at call s o run.0 last parts.0 g a run.1 (leads_in run.0 steps outs next last run.2 l) x h) e k

step_fair : (first : LinkSeen) (at : Place) (step : Step) (out : Outcome) (next last : Place) → Holds first last → NoneFalls first at.seen.link → (one : Plays_step at step out next) → LeadsTo next last → IsFairEnd step out out.end
step_fair first at step out next last g a one l = by out.end refl
  where
    error_at : (xs : List Step) (ys : List Outcome) → Plays_exchanges (begun_at at one.learnt) xs ys next → FirstIs at step out one.learnt xs → AreOf step.call xs → (e : Error) → (last_of out ys).end ≡ ends.Err e → IsFairError step.call e
    error_at [] ys run f parts e k = absurd (some_first at step out one.learnt f)
    error_at (x ∷ xs) [] run f parts e k = absurd run
    error_at (x ∷ xs) (y ∷ ys) run f parts e k = fair_in first step.call y run.0 xs ys next last g (NoneFalls-then first at.seen.link run.0.seen.link a run.1.counts) run.2 l parts.1 (λ z h. exchange_fair first (begun_at at one.learnt) step.call x y run.0 last parts.0 g a run.1 (leads_in run.0 xs ys next last run.2 l) z h) e k

    by : (end : End) → out.end ≡ end → IsFairEnd step out end
    by (ends.Ok answer) e = tt
    by ends.Dropped e = cut_short at step out one.stop (one.dropped e)
    by (ends.Err x) e = error_at one.exchanges one.outs one.run one.first (all_are_of step at out one.learnt (begun_at at one.learnt) one.exchanges one.outs next one.run one.first one.hands) x (sym one.tells.ends ∙ e)

all_fair : (first : LinkSeen) (at : Place) (steps : List Step) (outs : List Outcome) (last : Place) → Holds first last → NoneFalls first at.seen.link → Plays_from at steps outs last → EndFairly steps outs
all_fair first at [] [] last g a run = tt
all_fair first at [] (o ∷ outs) last g a run = absurd run
all_fair first at (s ∷ steps) [] last g a run = absurd run
all_fair first at (s ∷ steps) (o ∷ outs) last g a run =
    let next = run.0 in
    let one = run.1 in (
      step_fair first at s o next last g a one (leads_on next steps outs last run.2),
      all_fair first next steps outs last g (NoneFalls-then first at.seen.link next.seen.link a (counts_in (begun_at at one.learnt) one.exchanges one.outs next one.run)) run.2,
    )

pub where_faultless : (first : LinkSeen) (at last : Place) (steps : List Step) (outs : List Outcome) → Plays_from at steps outs last → NoneFalls first at.seen.link → at.broken ≡ None → AllByRecursion HasFrontendFrame last.said → AllByRecursion (IsWhole backend_tags) last.frames
    → (AsksForNoCopy (heard last.frames) → last.has_failed ≡ false → last.said ≡ said_in last.groups) → WhereFaultless first last steps outs
where_faultless first at last steps outs run counts w can whole plain sent read rest g =
    let may = (hears_groups last sent read rest can whole (λ h. plain h g.uncopied.0) g.sent_first g.cuts g.replies).1 in
    all_fair first at steps outs last (record {
      no_fault = g.no_fault;
      no_end = g.no_end;
      unbroken = λ fault e. refuted first last sent read rest fault g whole may (breaks_first at steps outs last run w fault e);
      no_copy = all_prefix StartsNoCopy (heard last.frames) (heard read) (taken_heard last read rest whole g.cuts) (replies_start_no_copy (said_in last.groups) (heard read) may);
    }) counts run
