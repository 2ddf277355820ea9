-- What a lawful server may begin in response to a group that runs the statement which the group before has described.
use Rattle.std.proofs.Common.{◌≡◌, ◌≢◌, ◌<◌, length-append, ℕ, zero, suc, ◌+◌, Bool, false, cond, List, [], ◌∷◌, ◌++◌, length, map, refl, sym, ap, ap₂, ◌∙◌, subst, append_assoc, append-nil, arith, flat_map, inr}
use Rattle.std.specs.List.{AllByRecursion, count_by}
use Rattle.std.proofs.lemmas.List.Concat.{flat_map-append}
use Rattle.std.proofs.lemmas.List.{map-append}
use Rattle.pg_wire.specs.declared.status.TransactionStatus.{TransactionStatus}
use Rattle.pg_wire.specs.Frame.{Frame}
use Rattle.pg_wire.specs.Parts.{is_ready}
use Rattle.pg_wire.specs.Frontend.{FrontendMessage, Parse, DescribeStatement}
use Rattle.pg_wire.specs.Backend.{BackendMessage, backend_frame, HasBackendFrame, ReadyForQuery}
use Rattle.pg_wire.specs.Server.{Server, ServerRun, IsPrefixOf, MayHear, fresh_server}
use Rattle.pg_wire.specs.Groups.{IsUnready, AreUnready, EndsReady, IsBetween, IsGroup}
use Rattle.pg_wire.specs.Refusals.{BeginsCopyResponse}
use Rattle.pg_exchanges.specs.Expecting.{HasWidth, HasWidths, BeginsKnowing}
use Rattle.pg_exchanges.specs.Answering.{described, IsNoError, IsClosedBy, describing}
use Rattle.pg_call.specs.Requests.{Group, said_in}
use Rattle.pg_call.specs.Drains.{after_readys}
use Rattle.pg_wire.proofs.RunLaws.{run_split}
use Rattle.pg_wire.proofs.GroupLaws.{group_answers}
use Rattle.pg_wire.proofs.CopyLaws.{plain, run_copies}
use Rattle.pg_wire.proofs.OwnLaws.{split_answers}
use Rattle.pg_wire.proofs.Unique.{backend_frame_unique}
use Rattle.pg_exchanges.proofs.WidthLaws.{description_adds, widths_stay}
use Rattle.pg_play.proofs.PlaceLaws.{all_split}
use Rattle.pg_play.proofs.LawfulLaws.{split_front, parted, open_front_one, prefix_map}

-- ---- a whole response, by its messages and by its frames

-- two lists that agree so far have the same first whole response, and agree behind it
record SameWhole (q r : List BackendMessage) (x y : List BackendMessage) : Type 0 where
  same : q ≡ r
  rest : IsPrefixOf x y

onto_whole : (a b : BackendMessage) (q r x y : List BackendMessage) → a ≡ b → SameWhole q r x y → SameWhole (a ∷ q) (b ∷ r) x y
onto_whole a b q r x y e s = record { same = ap₂ (λ (c : BackendMessage) (cs : List BackendMessage). c ∷ cs) e s.same; rest = s.rest }

same_whole : (front front' : List BackendMessage) (s s' : TransactionStatus) (x y : List BackendMessage) → AreUnready front → AreUnready front' → IsPrefixOf (front ++ ReadyForQuery s ∷ x) (front' ++ ReadyForQuery s' ∷ y) → SameWhole (front ++ ReadyForQuery s ∷ []) (front' ++ ReadyForQuery s' ∷ []) x y
same_whole [] [] s s' x y u v p =
    let e = p.1 in
    let head : ReadyForQuery s ≡ ReadyForQuery s' = cc in
    let tails : x ++ p.0 ≡ y = cc in
    record { same = ap (λ (c : BackendMessage). c ∷ []) head; rest = (p.0, tails) }
same_whole [] (b ∷ bs) s s' x y u v p =
    let e = p.1 in
    let head : ReadyForQuery s ≡ b = cc in
    absurd (subst IsUnready (sym head) v.0)
same_whole (a ∷ as') [] s s' x y u v p =
    let e = p.1 in
    let head : a ≡ ReadyForQuery s' = cc in
    absurd (subst IsUnready head u.0)
same_whole (a ∷ as') (b ∷ bs) s s' x y u v p =
    let e = p.1 in
    let head : a ≡ b = cc in
    let tails : (as' ++ ReadyForQuery s ∷ x) ++ p.0 ≡ bs ++ ReadyForQuery s' ∷ y = cc in
    onto_whole a b (as' ++ ReadyForQuery s ∷ []) (bs ++ ReadyForQuery s' ∷ []) x y head (same_whole as' bs s s' x y u.1 v.1 (p.0, tails))

-- the same, where the one is known by its frames
pub record SameFrames (q r : List BackendMessage) (own part : List Frame) : Type 0 where
  pub same : q ≡ r
  pub rest : own ≡ part

onto_frames : (a b : BackendMessage) (q r : List BackendMessage) (own part : List Frame) → a ≡ b → SameFrames q r own part → SameFrames (a ∷ q) (b ∷ r) own part
onto_frames a b q r own part e s = record { same = ap₂ (λ (c : BackendMessage) (cs : List BackendMessage). c ∷ cs) e s.same; rest = s.rest }

same_frames : (front front' : List BackendMessage) (s s' : TransactionStatus) (own part : List Frame) → AreUnready front → AreUnready front' → AllByRecursion HasBackendFrame front → AllByRecursion HasBackendFrame front'
    → map backend_frame front ++ backend_frame (ReadyForQuery s) ∷ own ≡ map backend_frame front' ++ backend_frame (ReadyForQuery s') ∷ part → SameFrames (front ++ ReadyForQuery s ∷ []) (front' ++ ReadyForQuery s' ∷ []) own part
same_frames [] [] s s' own part u v h k e =
    let head : backend_frame (ReadyForQuery s) ≡ backend_frame (ReadyForQuery s') = cc in
    let tails : own ≡ part = cc in
    record { same = ap (λ (c : BackendMessage). c ∷ []) (backend_frame_unique (ReadyForQuery s) (ReadyForQuery s') tt tt head); rest = tails }
same_frames [] (b ∷ bs) s s' own part u v h k e =
    let head : backend_frame (ReadyForQuery s) ≡ backend_frame b = cc in
    absurd (subst IsUnready (sym (backend_frame_unique (ReadyForQuery s) b tt k.0 head)) v.0)
same_frames (a ∷ as') [] s s' own part u v h k e =
    let head : backend_frame a ≡ backend_frame (ReadyForQuery s') = cc in
    absurd (subst IsUnready (backend_frame_unique a (ReadyForQuery s') h.0 tt head) u.0)
same_frames (a ∷ as') (b ∷ bs) s s' own part u v h k e =
    let head : backend_frame a ≡ backend_frame b = cc in
    let tails : map backend_frame as' ++ backend_frame (ReadyForQuery s) ∷ own ≡ map backend_frame bs ++ backend_frame (ReadyForQuery s') ∷ part = cc in
    onto_frames a b (as' ++ ReadyForQuery s ∷ []) (bs ++ ReadyForQuery s' ∷ []) own part (backend_frame_unique a b h.0 k.0 head) (same_frames as' bs s s' own part u.1 v.1 h.1 k.1 tails)

-- the frames of a whole response, with others behind them
framed : (q : List BackendMessage) (r : EndsReady q) (more : List Frame) → map backend_frame q ++ more ≡ map backend_frame r.front ++ backend_frame (ReadyForQuery r.status) ∷ more
framed q r more =
    ap (λ (t : List BackendMessage). map backend_frame t ++ more) r.are ∙ ap (λ (t : List Frame). t ++ more) (map-append backend_frame r.front (ReadyForQuery r.status ∷ []))
    ∙ append_assoc (map backend_frame r.front) (backend_frame (ReadyForQuery r.status) ∷ []) more

pub whole_frames : (q told : List BackendMessage) (own part : List Frame) → EndsReady q → EndsReady told → AllByRecursion HasBackendFrame q → AllByRecursion HasBackendFrame told → map backend_frame q ++ own ≡ map backend_frame told ++ part → SameFrames q told own part
whole_frames q told own part r r' h k e =
    let f = (all_split HasBackendFrame r.front (ReadyForQuery r.status ∷ []) (subst (AllByRecursion HasBackendFrame) r.are h)).0 in
    let f' = (all_split HasBackendFrame r'.front (ReadyForQuery r'.status ∷ []) (subst (AllByRecursion HasBackendFrame) r'.are k)).0 in
    let s = same_frames r.front r'.front r.status r'.status own part r.unready r'.unready f f' (sym (framed q r own) ∙ e ∙ framed told r' part) in
    record { same = r.are ∙ s.same ∙ sym r'.are; rest = s.rest }

-- behind as many ReadyForQuery as whole responses stands what follows them
pub unready_frame : (a : BackendMessage) → IsUnready a → is_ready (backend_frame a) ≡ false
unready_frame (ReadyForQuery s) h = absurd h
unready_frame _ h = refl

after_front : (front : List BackendMessage) (s : TransactionStatus) (n : ℕ) (rest : List BackendMessage) → AreUnready front → after_readys (suc n) (map backend_frame (front ++ ReadyForQuery s ∷ rest)) ≡ after_readys n (map backend_frame rest)
after_front [] s n rest u = refl
after_front (a ∷ as') s n rest u = ap (λ (t : Bool). after_readys (cond t n (suc n)) (map backend_frame (as' ++ ReadyForQuery s ∷ rest))) (unready_frame a u.0) ∙ after_front as' s n rest u.1

regroup : (a : List BackendMessage) (z : BackendMessage) (b c : List BackendMessage) → ((a ++ z ∷ []) ++ b) ++ c ≡ a ++ z ∷ (b ++ c)
regroup a z b c = simp append_assoc

after_whole : (n : ℕ) (ps : List (List BackendMessage)) (rest : List BackendMessage) → AllByRecursion EndsReady ps → length ps ≡ n → after_readys n (map backend_frame (flat_map (λ p. p) ps ++ rest)) ≡ map backend_frame rest
after_whole zero [] rest h e = refl
after_whole (suc n) [] rest h e = absurd (omega (arith, e))
after_whole zero (q ∷ ps) rest h e = absurd (omega (arith, e))
after_whole (suc n) (q ∷ ps) rest h e =
    let r = h.0 in
    let left : flat_map (λ y. y) (q ∷ ps) ++ rest ≡ r.front ++ ReadyForQuery r.status ∷ (flat_map (λ y. y) ps ++ rest) =
    ap (λ (w : List BackendMessage). (w ++ flat_map (λ y. y) ps) ++ rest) r.are ∙ regroup r.front (ReadyForQuery r.status) (flat_map (λ y. y) ps) rest in
    ap (λ (t : List BackendMessage). after_readys (suc n) (map backend_frame t)) left ∙ after_front r.front r.status n (flat_map (λ y. y) ps ++ rest) r.unready ∙ after_whole n ps rest h.1 (omega (arith, e))

-- the last response, and those before it
record LastOf (ps : List (List BackendMessage)) (n : ℕ) : Type 0 where
  front : List (List BackendMessage)
  last : List BackendMessage
  are : ps ≡ front ++ last ∷ []
  count : length front ≡ n

last_of : (n : ℕ) (ps : List (List BackendMessage)) → length ps ≡ suc n → LastOf ps n
last_of n [] e = absurd (omega (arith, e))
last_of zero (q ∷ []) e = record { front = []; last = q; are = refl; count = refl }
last_of zero (q ∷ p ∷ ps) e = absurd (omega (arith, e))
last_of (suc n) (q ∷ ps) e =
    let further = last_of n ps (omega (arith, e)) in
    record { front = q ∷ further.front; last = further.last; are = ap (λ (t : List (List BackendMessage)). q ∷ t) further.are; count = omega (arith, further.count) }

-- ---- the run, group by group

-- a server between two groups, which goes on with these messages and begins its replies so
record Stands (rest : List FrontendMessage) (part : List BackendMessage) (after : Server) : Type 0 where
  old : Server
  answers : List (List BackendMessage)
  between : IsBetween old
  run : ServerRun old rest answers after
  answered : AllByRecursion HasBackendFrame (flat_map (λ rs. rs) answers)
  begins : IsPrefixOf part (flat_map (λ rs. rs) answers)

-- the replies to one group are a whole response, and the server stands behind it
record OneOn (old after : Server) (g rest : List FrontendMessage) (q part : List BackendMessage) : Type 0 where
  answers : List (List BackendMessage)
  on : Stands rest part after
  run : ServerRun old g answers on.old
  whole : q ≡ flat_map (λ rs. rs) answers

one_on : (g rest : List FrontendMessage) (q part : List BackendMessage) (after : Server) → IsGroup g → EndsReady q → (s : Stands (g ++ rest) (q ++ part) after) → OneOn s.old after g rest q part
one_on g rest q part after h r s =
    let t = run_split s.old after g rest s.answers s.run in
    let one = group_answers s.old t.mid g t.front h s.between t.begins in
    let e = split_answers t.front t.further s.answers one.0 t.parts in
    let left : q ++ part ≡ r.front ++ ReadyForQuery r.status ∷ part = ap (λ (w : List BackendMessage). w ++ part) r.are ∙ append_assoc r.front (ReadyForQuery r.status ∷ []) part in
    let both = same_whole r.front one.0.front r.status one.0.status part (flat_map (λ rs. rs) t.further) r.unready one.0.unready
    (subst (λ (w : List BackendMessage). IsPrefixOf w (one.0.front ++ ReadyForQuery one.0.status ∷ flat_map (λ rs. rs) t.further)) left (subst (IsPrefixOf (q ++ part)) e s.begins)) in
    let flat : flat_map (λ (rs : List BackendMessage). rs) s.answers ≡ flat_map (λ rs. rs) t.front ++ flat_map (λ rs. rs) t.further = ap (flat_map (λ (rs : List BackendMessage). rs)) t.parts ∙ flat_map-append (λ rs. rs) t.front t.further in
    record {
      answers = t.front;
      on = record {
        old = t.mid;
        answers = t.further;
        between = one.1;
        run = t.goes_on;
        answered = (all_split HasBackendFrame (flat_map (λ rs. rs) t.front) (flat_map (λ rs. rs) t.further) (subst (AllByRecursion HasBackendFrame) flat s.answered)).1;
        begins = both.rest;
      };
      run = t.begins;
      whole = r.are ∙ both.same ∙ sym one.0.are;
    }

stands_at : (s : List FrontendMessage) (xs : List BackendMessage) (s' : List FrontendMessage) (xs' : List BackendMessage) (after : Server) → s ≡ s' → xs ≡ xs' → Stands s xs after → Stands s' xs' after
stands_at s xs s' xs' after e f t = record {
  old = t.old;
  answers = t.answers;
  between = t.between;
  run = subst (λ (m : List FrontendMessage). ServerRun t.old m t.answers after) e t.run;
  answered = t.answered;
  begins = subst (λ (w : List BackendMessage). IsPrefixOf w (flat_map (λ rs. rs) t.answers)) f t.begins;
}

-- behind as many whole responses as groups
all_on : (gs : List (List FrontendMessage)) (ps : List (List BackendMessage)) (rest : List FrontendMessage) (part : List BackendMessage) (after : Server) → AllByRecursion IsGroup gs → AllByRecursion EndsReady ps → length ps ≡ length gs
    → Stands (flat_map (λ g. g) gs ++ rest) (flat_map (λ p. p) ps ++ part) after → Stands rest part after
all_on [] [] rest part after hs ends len s = s
all_on [] (q ∷ ps) rest part after hs ends len s = absurd (omega (arith, len))
all_on (g ∷ gs) [] rest part after hs ends len s = absurd (omega (arith, len))
all_on (g ∷ gs) (q ∷ ps) rest part after hs ends len s =
    let more : List FrontendMessage = flat_map (λ y. y) gs ++ rest in
    let heard : List BackendMessage = flat_map (λ y. y) ps ++ part in
    let here = stands_at ((g ++ flat_map (λ y. y) gs) ++ rest) ((q ++ flat_map (λ y. y) ps) ++ part) (g ++ more) (q ++ heard) after (append_assoc g (flat_map (λ y. y) gs) rest) (append_assoc q (flat_map (λ y. y) ps) part) s in
    let one = one_on g more q heard after hs.0 ends.0 here in
    all_on gs ps rest part after hs.1 ends.1 (omega (arith, len)) one.on

-- ---- behind a group that described a statement

-- the server behind the response has the statement, with as many columns as it described
width_behind : (name sql types : List ℕ) (rest : List FrontendMessage) (told part : List BackendMessage) (after : Server) (s : Stands (describing name sql types ++ rest) (told ++ part) after) (o : OneOn s.old after (describing name sql types) rest told part)
    → AllByRecursion IsNoError told → HasWidth o.on.old (name, length (described told))
width_behind name sql types rest told part after s o h =
    subst (λ (t : List BackendMessage). HasWidth o.on.old (name, length (described t))) (sym o.whole)
    (description_adds (plain s.old) (plain o.on.old) name sql types o.answers refl s.between (run_copies s.old o.on.old (describing name sql types) o.answers o.run) (subst (AllByRecursion IsNoError) o.whole h))

-- what a server that stands there begins
begins_known : (name : List ℕ) (width : ℕ) (group more : List FrontendMessage) (own : List BackendMessage) (a : BackendMessage) (after : Server) (frames : List Frame) (s : Stands (group ++ more) (own ++ a ∷ []) after)
    → IsGroup group → AreUnready own → HasWidth s.old (name, width) → map backend_frame (own ++ a ∷ []) ≡ frames → BeginsKnowing ((name, width) ∷ []) group frames
begins_known name width group more own a after frames s g u w said =
    let t = run_split s.old after group more s.answers s.run in
    let one = group_answers s.old t.mid group t.front g s.between t.begins in
    let e = split_answers t.front t.further s.answers one.0 t.parts in
    let near = open_front_one own one.0.front a one.0.status (flat_map (λ rs. rs) t.further) u (subst (IsPrefixOf (own ++ a ∷ [])) e s.begins) in
    let flat : flat_map (λ (rs : List BackendMessage). rs) s.answers ≡ flat_map (λ rs. rs) t.front ++ flat_map (λ rs. rs) t.further = ap (flat_map (λ (rs : List BackendMessage). rs)) t.parts ∙ flat_map-append (λ rs. rs) t.front t.further in
    let begun : IsPrefixOf (own ++ a ∷ []) (flat_map (λ rs. rs) t.front) = subst (IsPrefixOf (own ++ a ∷ [])) (sym one.0.are) near in
    let b : BeginsCopyResponse group frames = record {
      before = plain s.old;
      after = plain t.mid;
      replies = t.front;
      between = (refl, s.between);
      run = run_copies s.old t.mid group t.front t.begins;
      replies_have_frames = (all_split HasBackendFrame (flat_map (λ rs. rs) t.front) (flat_map (λ rs. rs) t.further) (subst (AllByRecursion HasBackendFrame) flat s.answered)).0;
      begins = subst (λ (f : List Frame). IsPrefixOf f (map backend_frame (flat_map (λ rs. rs) t.front))) said (prefix_map (own ++ a ∷ []) (flat_map (λ rs. rs) t.front) begun);
    } in
    (b, (w, tt))

describing_group : (name sql types : List ℕ) → IsGroup (describing name sql types)
describing_group name sql types = inr (Parse name sql types ∷ DescribeStatement name ∷ [], (tt, (tt, tt)), refl)

said_at : (groups : List Group) (before group : Group) (more : List FrontendMessage) → said_in ((groups ++ before ∷ []) ++ group ∷ []) ++ more ≡ flat_map (λ g. g) groups ++ (before ++ (group ++ more))
said_at groups before group more =
    ap (λ (s : List FrontendMessage). s ++ more) (flat_map-append (λ g. g) (groups ++ before ∷ []) (group ∷ []) ∙ ap₂ (λ (s t : List FrontendMessage). s ++ t) (flat_map-append (λ g. g) groups (before ∷ [])) (append-nil group))
    ∙ ap (λ (s : List FrontendMessage). ((said_in groups ++ s) ++ group) ++ more) (append-nil before) ∙ four (said_in groups) before group more
  where
    four : (a b c d : List FrontendMessage) → ((a ++ b) ++ c) ++ d ≡ a ++ (b ++ (c ++ d))
    four a b c d = simp append_assoc

-- the messages so far, with the response to the group before known
record Heard (before : List BackendMessage) (n : ℕ) (told : List BackendMessage) (part : List Frame) : Type 0 where
  ps : List (List BackendMessage)
  own : List BackendMessage
  whole : before ≡ flat_map (λ p. p) ps ++ (told ++ own)
  ended : AllByRecursion EndsReady ps
  count : length ps ≡ n
  unready : AreUnready own
  own_is : map backend_frame own ≡ part

heard_so : (before : List BackendMessage) (n : ℕ) (told : List BackendMessage) (part : List Frame) → AllByRecursion HasBackendFrame before → count_by is_ready (map backend_frame before) ≡ n + 1 → EndsReady told → AllByRecursion HasBackendFrame told
    → after_readys n (map backend_frame before) ≡ map backend_frame told ++ part → Heard before n told part
heard_so before n told part h c r k e =
    let count : count_by is_ready (map backend_frame before) ≡ suc n = omega (arith, c) in
    let p = parted before (suc n) count in
    let l = last_of n p.ps p.count in
    let ends = all_split EndsReady l.front (l.last ∷ []) (subst (AllByRecursion EndsReady) l.are p.ended) in
    let whole : before ≡ flat_map (λ q. q) l.front ++ (l.last ++ p.own) = p.whole ∙ ap (λ (t : List (List BackendMessage)). flat_map (λ q. q) t ++ p.own) l.are ∙ ap (λ (t : List BackendMessage). t ++ p.own) (flat_map-append (λ q. q) l.front (l.last ∷ []))
    ∙ ap (λ (t : List BackendMessage). (flat_map (λ q. q) l.front ++ t) ++ p.own) (append-nil l.last) ∙ append_assoc (flat_map (λ q. q) l.front) l.last p.own in
    let frames = all_split HasBackendFrame (flat_map (λ q. q) l.front) (l.last ++ p.own) (subst (AllByRecursion HasBackendFrame) whole h) in
    let last_frames = (all_split HasBackendFrame l.last p.own frames.1).0 in
    let behind : map backend_frame l.last ++ map backend_frame p.own ≡ map backend_frame told ++ part =
    sym (map-append backend_frame l.last p.own) ∙ sym (after_whole n l.front (l.last ++ p.own) ends.0 l.count) ∙ ap (λ (t : List BackendMessage). after_readys n (map backend_frame t)) (sym whole) ∙ e in
    let same = whole_frames l.last told (map backend_frame p.own) part ends.1.0 r last_frames k behind in
    record {
      ps = l.front;
      own = p.own;
      whole = whole ∙ ap (λ (t : List BackendMessage). flat_map (λ q. q) l.front ++ (t ++ p.own)) same.same;
      ended = ends.0;
      count = l.count;
      unready = p.unready;
      own_is = same.rest;
    }

-- behind the whole response to a group that described a statement without an error, what is heard begins a response to the next group, of a
-- server that has this statement with as many columns as were described; `told` are the messages of that whole response, its ReadyForQuery included
pub lawful_knows : (groups : List Group) (name sql types : List ℕ) (group : Group) (heards part : List Frame) (front : Frame) (told : List BackendMessage) → AllByRecursion IsGroup groups → IsGroup group
    → MayHear (said_in ((groups ++ describing name sql types ∷ []) ++ group ∷ [])) (heards ++ front ∷ []) → count_by is_ready heards ≡ length groups + 1
    → after_readys (length groups) heards ≡ map backend_frame told ++ part → EndsReady told → AllByRecursion HasBackendFrame told → AllByRecursion IsNoError told
    → BeginsKnowing ((name, length (described told)) ∷ []) group (part ++ front ∷ [])
lawful_knows groups name sql types group heards part front told gs g l c after ends frames good =
    let s = split_front heards front l.heard_is.0 (flat_map (λ rs. rs) l.replies) l.heard_is.1 in
    let ok = (all_split HasBackendFrame s.before (s.message ∷ s.behind) (subst (AllByRecursion HasBackendFrame) s.whole l.replies_have_frames)).0 in
    let h = heard_so s.before (length groups) told part ok (ap (λ (x : List Frame). count_by is_ready x) (sym s.heards_are) ∙ c) ends frames (ap (after_readys (length groups)) (sym s.heards_are) ∙ after) in
    let before : Group = describing name sql types in
    let rest : List FrontendMessage = group ++ l.more in
    let last : List BackendMessage = h.own ++ s.message ∷ [] in
    let whole : (flat_map (λ q. q) h.ps ++ (told ++ last)) ++ s.behind ≡ flat_map (λ rs. rs) l.replies =
    joined (flat_map (λ q. q) h.ps) told h.own s.message s.behind ∙ ap (λ (t : List BackendMessage). t ++ s.message ∷ s.behind) (sym h.whole) ∙ sym s.whole in
    let start : Stands (flat_map (λ q. q) groups ++ (before ++ rest)) (flat_map (λ q. q) h.ps ++ (told ++ last)) l.after = record {
      old = fresh_server;
      answers = l.replies;
      between = (refl, refl);
      run = subst (λ (t : List FrontendMessage). ServerRun fresh_server t l.replies l.after) (said_at groups before group l.more) l.run;
      answered = l.replies_have_frames;
      begins = (s.behind, whole);
    } in
    let there = all_on groups h.ps (before ++ rest) (told ++ last) l.after gs h.ended h.count start in
    let one = one_on before rest told last l.after (describing_group name sql types) ends there in
    let said : map backend_frame last ≡ part ++ front ∷ [] =
    map-append backend_frame h.own (s.message ∷ []) ∙ ap (λ (t : List Frame). t ++ backend_frame s.message ∷ []) h.own_is ∙ ap (λ (m : Frame). part ++ m ∷ []) (sym s.front_is) in
    begins_known name (length (described told)) group l.more h.own s.message l.after (part ++ front ∷ []) one.on g h.unready (width_behind name sql types rest told last l.after there one good) said
  where
    joined : (a b c : List BackendMessage) (m : BackendMessage) (d : List BackendMessage) → (a ++ (b ++ (c ++ m ∷ []))) ++ d ≡ (a ++ (b ++ c)) ++ m ∷ d
    joined a b c m d = simp append_assoc

-- ---- a statement that was described, with other groups behind it

-- the same, where a server that has a statement goes on with groups that don't close it
record StillHas (name : List ℕ) (width : ℕ) (rest : List FrontendMessage) (part : List BackendMessage) (after : Server) : Type 0 where
  on : Stands rest part after
  has : HasWidth on.old (name, width)

still_has : (name : List ℕ) (width : ℕ) (gs : List (List FrontendMessage)) (ps : List (List BackendMessage)) (rest : List FrontendMessage) (part : List BackendMessage) (after : Server) → name ≢ [] → AllByRecursion IsGroup gs → AllByRecursion (λ g. IsClosedBy g name → ⊥) gs → AllByRecursion EndsReady ps → length ps ≡ length gs
    → (s : Stands (flat_map (λ g. g) gs ++ rest) (flat_map (λ p. p) ps ++ part) after) → HasWidth s.old (name, width) → StillHas name width rest part after
still_has name width [] [] rest part after n hs spared ends len s w = record { on = s; has = w }
still_has name width [] (q ∷ ps) rest part after n hs spared ends len s w = absurd (omega (arith, len))
still_has name width (g ∷ gs) [] rest part after n hs spared ends len s w = absurd (omega (arith, len))
still_has name width (g ∷ gs) (q ∷ ps) rest part after n hs spared ends len s w =
    let more : List FrontendMessage = flat_map (λ y. y) gs ++ rest in
    let heard : List BackendMessage = flat_map (λ y. y) ps ++ part in
    let here : Stands (g ++ more) (q ++ heard) after = record {
      old = s.old;
      answers = s.answers;
      between = s.between;
      run = subst (λ (m : List FrontendMessage). ServerRun s.old m s.answers after) (append_assoc g (flat_map (λ y. y) gs) rest) s.run;
      answered = s.answered;
      begins = subst (λ (x : List BackendMessage). IsPrefixOf x (flat_map (λ rs. rs) s.answers)) (append_assoc q (flat_map (λ y. y) ps) part) s.begins;
    } in
    let one = one_on g more q heard after hs.0 ends.0 here in
    let kept : HasWidths (plain one.on.old).server ((name, width) ∷ []) = widths_stay ((name, width) ∷ []) g (plain s.old) (plain one.on.old) one.answers (run_copies s.old one.on.old g one.answers one.run) ((n, spared.0), tt) (w, tt) in
    still_has name width gs ps rest part after n hs.1 spared.1 ends.1 (omega (arith, len)) one.on kept.0

-- so many first items, one, and those behind it
record Around {X : Type 0} (n : ℕ) (xs : List X) : Type 0 where
  before : List X
  item : X
  behind : List X
  are : xs ≡ before ++ item ∷ behind
  count : length before ≡ n

around : {X : Type 0} (n : ℕ) (xs : List X) → n < length xs → Around n xs
around n [] l = absurd (omega (arith, l))
around zero (x ∷ xs) l = record { before = []; item = x; behind = xs; are = refl; count = refl }
around {X} (suc n) (x ∷ xs) l =
    let f = around n xs (omega (arith, l)) in
    record { before = x ∷ f.before; item = f.item; behind = f.behind; are = ap (λ (t : List X). x ∷ t) f.are; count = omega (arith, f.count) }

-- Some group described a statement without an error, and none behind it closes it: what is heard behind all of their responses begins one to the next group, of a server that
-- has the statement.
pub lawful_keeps : (before : List Group) (name sql types : List ℕ) (later : List Group) (group : Group) (heards part more : List Frame) (front : Frame) (told : List BackendMessage) → AllByRecursion IsGroup (before ++ describing name sql types ∷ later) → IsGroup group → name ≢ [] → AllByRecursion (λ g. IsClosedBy g name → ⊥) later
    → MayHear (said_in ((before ++ describing name sql types ∷ later) ++ group ∷ [])) (heards ++ front ∷ []) → count_by is_ready heards ≡ length (before ++ describing name sql types ∷ later)
    → after_readys (length before) heards ≡ map backend_frame told ++ more → after_readys (length (before ++ describing name sql types ∷ later)) heards ≡ part → EndsReady told → AllByRecursion HasBackendFrame told → AllByRecursion IsNoError told
    → BeginsKnowing ((name, length (described told)) ∷ []) group (part ++ front ∷ [])
lawful_keeps before name sql types later group heards part more front told gs g n spared l c begun after ends frames good =
    let N : ℕ = length (before ++ describing name sql types ∷ later) in
    let many : N ≡ length before + suc (length later) = length-append before (describing name sql types ∷ later) in
    let s = split_front heards front l.heard_is.0 (flat_map (λ rs. rs) l.replies) l.heard_is.1 in
    let ok = (all_split HasBackendFrame s.before (s.message ∷ s.behind) (subst (AllByRecursion HasBackendFrame) s.whole l.replies_have_frames)).0 in
    let p = parted s.before N (ap (λ (x : List Frame). count_by is_ready x) (sym s.heards_are) ∙ c) in
    let r = around (length before) p.ps (omega (arith, many, p.count)) in
    let ended = all_split EndsReady r.before (r.item ∷ r.behind) (subst (AllByRecursion EndsReady) r.are p.ended) in
    let rest : List BackendMessage = flat_map (λ q. q) r.behind ++ p.own in
    let whole : s.before ≡ flat_map (λ q. q) r.before ++ (r.item ++ rest) =
    p.whole ∙ ap (λ (t : List (List BackendMessage)). flat_map (λ q. q) t ++ p.own) r.are ∙ ap (λ (t : List BackendMessage). t ++ p.own) (flat_map-append (λ q. q) r.before (r.item ∷ r.behind))
    ∙ three (flat_map (λ q. q) r.before) r.item (flat_map (λ q. q) r.behind) p.own in
    let framed = all_split HasBackendFrame (flat_map (λ q. q) r.before) (r.item ++ rest) (subst (AllByRecursion HasBackendFrame) whole ok) in
    let item_frames = (all_split HasBackendFrame r.item rest framed.1).0 in
    let behind : map backend_frame r.item ++ map backend_frame rest ≡ map backend_frame told ++ more =
    sym (map-append backend_frame r.item rest) ∙ sym (after_whole (length before) r.before (r.item ++ rest) ended.0 r.count) ∙ ap (λ (t : List BackendMessage). after_readys (length before) (map backend_frame t)) (sym whole)
    ∙ ap (after_readys (length before)) (sym s.heards_are) ∙ begun in
    let same = whole_frames r.item told (map backend_frame rest) more ended.1.0 ends item_frames frames behind in
    let groups = all_split IsGroup before (describing name sql types ∷ later) gs in
    let last : List BackendMessage = p.own ++ s.message ∷ [] in
    let after_all : List FrontendMessage = flat_map (λ y. y) later ++ (group ++ l.more) in
    let heard : List BackendMessage = flat_map (λ y. y) r.behind ++ last in
    let all : (flat_map (λ q. q) r.before ++ (told ++ heard)) ++ s.behind ≡ flat_map (λ rs. rs) l.replies =
    five (flat_map (λ q. q) r.before) told (flat_map (λ q. q) r.behind) p.own s.message s.behind ∙ ap (λ (t : List BackendMessage). (flat_map (λ q. q) r.before ++ (t ++ rest)) ++ s.message ∷ s.behind) (sym same.same) ∙ ap (λ (t : List BackendMessage). t ++ s.message ∷ s.behind) (sym whole) ∙ sym s.whole in
    let start : Stands (flat_map (λ q. q) before ++ (describing name sql types ++ after_all)) (flat_map (λ q. q) r.before ++ (told ++ heard)) l.after = record {
      old = fresh_server;
      answers = l.replies;
      between = (refl, refl);
      run = subst (λ (t : List FrontendMessage). ServerRun fresh_server t l.replies l.after) (said_all before (describing name sql types) later group l.more) l.run;
      answered = l.replies_have_frames;
      begins = (s.behind, all);
    } in
    let there = all_on before r.before (describing name sql types ++ after_all) (told ++ heard) l.after groups.0 ended.0 r.count start in
    let one = one_on (describing name sql types) after_all told heard l.after (describing_group name sql types) ends there in
    let later_count : length r.behind ≡ length later = omega (arith, p.count, many, ap (λ (t : List (List BackendMessage)). length t) r.are, length-append r.before (r.item ∷ r.behind), r.count) in
    let here = still_has name (length (described told)) later r.behind (group ++ l.more) last l.after n groups.1.1 spared ended.1.1 later_count one.on (width_behind name sql types after_all told heard l.after there one good) in
    let own_part : map backend_frame p.own ≡ part =
    sym (after_whole N p.ps p.own p.ended p.count) ∙ ap (λ (t : List BackendMessage). after_readys N (map backend_frame t)) (sym p.whole) ∙ ap (after_readys N) (sym s.heards_are) ∙ after in
    let said : map backend_frame last ≡ part ++ front ∷ [] =
    map-append backend_frame p.own (s.message ∷ []) ∙ ap (λ (t : List Frame). t ++ backend_frame s.message ∷ []) own_part ∙ ap (λ (m : Frame). part ++ m ∷ []) (sym s.front_is) in
    begins_known name (length (described told)) group l.more p.own s.message l.after (part ++ front ∷ []) here.on g p.unready here.has said
  where
    three : (a b c d : List BackendMessage) → (a ++ (b ++ c)) ++ d ≡ a ++ (b ++ (c ++ d))
    three a b c d = simp append_assoc

    five : (a b c d : List BackendMessage) (m : BackendMessage) (e : List BackendMessage) → (a ++ (b ++ (c ++ (d ++ m ∷ [])))) ++ e ≡ (a ++ (b ++ (c ++ d))) ++ m ∷ e
    five a b c d m e = simp append_assoc

    said_all : (before : List Group) (g : Group) (later : List Group) (group : Group) (more : List FrontendMessage) → said_in ((before ++ g ∷ later) ++ group ∷ []) ++ more ≡ flat_map (λ q. q) before ++ (g ++ (flat_map (λ y. y) later ++ (group ++ more)))
    said_all before g later group more =
        ap (λ (s : List FrontendMessage). s ++ more) (flat_map-append (λ q. q) (before ++ g ∷ later) (group ∷ []) ∙ ap₂ (λ (s t : List FrontendMessage). s ++ t) (flat_map-append (λ q. q) before (g ∷ later)) (append-nil group))
        ∙ four (flat_map (λ q. q) before) g (flat_map (λ y. y) later) group more
      where
        four : (a b c d e : List FrontendMessage) → ((a ++ (b ++ c)) ++ d) ++ e ≡ a ++ (b ++ (c ++ (d ++ e)))
        four a b c d e = simp append_assoc
