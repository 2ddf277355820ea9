-- How a place moves on in a list of read events.
use Rattle.std.proofs.Common.{◌≡◌, ℕ, zero, suc, ◌+◌, ◌-◌, ◌≤◌, ◌≢◌, List, [], ◌∷◌, ◌++◌, length, take, drop, true, refl, sym, subst, ap, ◌∙◌, append_assoc, take_all, take-add, add-one, length-append, length-drop, take-append-drop, ◌<◌, min, ◌⊎◌, inl, inr, arith}
use Rattle.std.proofs.lemmas.List.{append-nil, take_rest, drop_more, drop_all, drop-drop}
use Rattle.std.proofs.lemmas.Grind.{flat_map-append}
use Rattle.pg_stream.specs.declared.events.ReadEvent.{ReadEvent}
use Rattle.pg_stream.specs.declared.events.ReadEvent.TheVariants.{Piece, Wait, End, Fail}
use Rattle.pg_stream.specs.declared.link.LinkRead.{LinkRead}
use Rattle.pg_stream.specs.declared.link.LinkRead.TheVariants as reads
use Rattle.pg_stream.specs.declared.read_list.ReadList.{ReadList}
use Rattle.pg_stream.specs.Events.{bytes_in, pieces_in, event_at, passed_of, waits_in, given_by, left_by, cut_front, ahead_of, read_of, IsSamePlace, IsGivenAt, IsFull, IsRead, ListGives, ListReads}

-- the bytes given at a place
abbrev given : ℕ → ℕ → List ReadEvent → List ℕ
given p o es = pieces_in (passed_of p es) ++ take o (bytes_in (event_at p es))

next_passed : (p : ℕ) (es : List ReadEvent) → passed_of (suc p) es ≡ passed_of p es ++ event_at p es ∷ []
next_passed zero [] = refl
next_passed zero (e ∷ es) = refl
next_passed (suc p) [] = ap (λ (xs : List ReadEvent). Wait ∷ xs) (next_passed p [])
next_passed (suc p) (e ∷ es) = ap (λ (xs : List ReadEvent). e ∷ xs) (next_passed p es)

pieces-next : (p : ℕ) (es : List ReadEvent) → pieces_in (passed_of (suc p) es) ≡ pieces_in (passed_of p es) ++ bytes_in (event_at p es)
pieces-next p es = ap pieces_in (next_passed p es) ∙ flat_map-append bytes_in (passed_of p es) (event_at p es ∷ [])
    ∙ ap (λ (ys : List ℕ). pieces_in (passed_of p es) ++ ys) (append-nil (bytes_in (event_at p es)))

waits-append : (n : ℕ) (xs ys : List ReadEvent) → waits_in n (xs ++ ys) ≡ waits_in n xs ++ waits_in (n + length (pieces_in xs)) ys
waits-append n [] ys = let e : n ≡ n + 0 = omega arith in ap (λ (k : ℕ). waits_in k ys) e
waits-append n (Piece b ∷ xs) ys = waits-append (n + length b) xs ys
    ∙ ap (λ (k : ℕ). waits_in (n + length b) xs ++ waits_in k ys) (omega (arith, length-append b (pieces_in xs)))
waits-append n (Wait ∷ xs) ys = ap (λ (zs : List ℕ). n ∷ zs) (waits-append n xs ys)
waits-append n (End ∷ xs) ys = waits-append n xs ys
waits-append n (Fail ∷ xs) ys = waits-append n xs ys

waits-next : (p : ℕ) (es : List ReadEvent) → waits_in 0 (passed_of (suc p) es) ≡ waits_in 0 (passed_of p es) ++ waits_in (length (pieces_in (passed_of p es))) (event_at p es ∷ [])
waits-next p es = ap (λ (xs : List ReadEvent). waits_in 0 xs) (next_passed p es) ∙ waits-append 0 (passed_of p es) (event_at p es ∷ [])
    ∙ ap (λ (k : ℕ). waits_in 0 (passed_of p es) ++ waits_in k (event_at p es ∷ [])) (omega arith)

none_waits : (n : ℕ) (e : ReadEvent) → e ≢ Wait → waits_in n (e ∷ []) ≡ []
none_waits n (Piece b) ne = refl
none_waits n Wait ne = absurd (ne refl)
none_waits n End ne = refl
none_waits n Fail ne = refl

one_waits : (n : ℕ) (e : ReadEvent) → e ≡ Wait → waits_in n (e ∷ []) ≡ n ∷ []
one_waits n e eq = ap (λ (x : ReadEvent). waits_in n (x ∷ [])) eq

-- an event of which nothing is left is passed
pass_given : (p o : ℕ) (es : List ReadEvent) → length (bytes_in (event_at p es)) ≤ o → given (p + 1) 0 es ≡ given p o es
pass_given p o es le = rw add-one (append-nil (pieces_in (passed_of (suc p) es)) ∙ pieces-next p es
    ∙ ap (λ (ys : List ℕ). pieces_in (passed_of p es) ++ ys) (sym (take_all o (bytes_in (event_at p es)) le)))

-- ... and it is no wait
pass_places : (p : ℕ) (es : List ReadEvent) → event_at p es ≢ Wait → waits_in 0 (passed_of (p + 1) es) ≡ waits_in 0 (passed_of p es)
pass_places p es ne = rw add-one (waits-next p es
    ∙ ap (λ (ys : List ℕ). waits_in 0 (passed_of p es) ++ ys) (none_waits (length (pieces_in (passed_of p es))) (event_at p es) ne)
    ∙ append-nil (waits_in 0 (passed_of p es)))

nothing_of_wait : (e : ReadEvent) → e ≡ Wait → (o : ℕ) → take o (bytes_in e) ≡ []
nothing_of_wait e eq o = ap (λ (x : ReadEvent). take o (bytes_in x)) eq ∙ take_all o [] (omega arith)

-- a wait is passed
wait_places : (p o : ℕ) (es : List ReadEvent) → event_at p es ≡ Wait → waits_in 0 (passed_of (p + 1) es) ≡ waits_in 0 (passed_of p es) ++ length (given p o es) ∷ []
wait_places p o es eq =
    let here : pieces_in (passed_of p es) ≡ given p o es
    = sym (append-nil (pieces_in (passed_of p es))) ∙ ap (λ (ys : List ℕ). pieces_in (passed_of p es) ++ ys) (sym (nothing_of_wait (event_at p es) eq o)) in
    rw add-one (waits-next p es
    ∙ ap (λ (ys : List ℕ). waits_in 0 (passed_of p es) ++ ys) (one_waits (length (pieces_in (passed_of p es))) (event_at p es) eq)
    ∙ ap (λ (ys : List ℕ). waits_in 0 (passed_of p es) ++ length ys ∷ []) here)

wait_given : (p o : ℕ) (es : List ReadEvent) → event_at p es ≡ Wait → given (p + 1) 0 es ≡ given p o es
wait_given p o es eq = pass_given p o es (omega (arith, ap (λ (e : ReadEvent). length (bytes_in e)) eq))

-- more of a piece is given
more_given : (p o k : ℕ) (es : List ReadEvent) → given p (o + k) es ≡ given p o es ++ take k (drop o (bytes_in (event_at p es)))
more_given p o k es = ap (λ (ys : List ℕ). pieces_in (passed_of p es) ++ ys) (take-add o k (bytes_in (event_at p es)))
    ∙ sym (append_assoc (pieces_in (passed_of p es)) (take o (bytes_in (event_at p es))) (take k (drop o (bytes_in (event_at p es)))))

split_at : (p : ℕ) (es : List ReadEvent) → pieces_in es ≡ pieces_in (passed_of p es) ++ (bytes_in (event_at p es) ++ pieces_in (drop (suc p) es))
split_at zero [] = refl
split_at zero (e ∷ es) = refl
split_at (suc p) [] = split_at p []
split_at (suc p) (e ∷ es) = ap (λ (ys : List ℕ). bytes_in e ++ ys) (split_at p es)
    ∙ sym (append_assoc (bytes_in e) (pieces_in (passed_of p es)) (bytes_in (event_at p es) ++ pieces_in (drop (suc p) es)))

-- ---- the events ahead

within : (p : ℕ) (es : List ReadEvent) → event_at p es ≢ Wait → p < length es
within zero [] ne = absurd (ne refl)
within (suc p) [] ne = absurd (ne refl)
within zero (e ∷ es) ne = omega arith
within (suc p) (e ∷ es) ne = omega (arith, within p es ne)

pub cut_none : (es : List ReadEvent) → cut_front 0 es ≡ es
cut_none [] = refl
cut_none (Piece b ∷ es) = refl
cut_none (Wait ∷ es) = refl
cut_none (End ∷ es) = refl
cut_none (Fail ∷ es) = refl

-- the next event stands before those that are ahead once it is passed
ahead_at : (p o : ℕ) (es : List ReadEvent) (e : ReadEvent) → event_at p es ≡ e → e ≢ Wait → cut_front o (drop p es) ≡ cut_front o (e ∷ cut_front 0 (drop (p + 1) es))
ahead_at p o es e is ne =
    let lt : p < length es = within p es (λ w. ne (sym is ∙ w)) in
    ap (cut_front o) (drop_more es p Wait lt
    ∙ ap (λ (x : ReadEvent). x ∷ drop (p + 1) es) is
    ∙ ap (λ (xs : List ReadEvent). e ∷ xs) (sym (cut_none (drop (p + 1) es))))

skip_ahead : (p o : ℕ) (es : List ReadEvent) (bytes : List ℕ) (size : ℕ) → event_at p es ≡ Piece bytes → length bytes ≤ o
    → read_of size (cut_front 0 (drop (p + 1) es)) ≡ read_of size (cut_front o (drop p es))
skip_ahead p o es bytes size is le = sym (ap (read_of size) (ahead_at p o es (Piece bytes) is (λ w. cc w)
    ∙ ap (λ (xs : List ℕ). Piece xs ∷ cut_front 0 (drop (p + 1) es)) (drop_all o bytes le)))

wait_ahead : (p o : ℕ) (es : List ReadEvent) (size : ℕ) → event_at p es ≡ Wait → read_of size (cut_front o (drop p es)) ≡ (reads.NotYet, drop (suc p) es)
wait_ahead zero o [] size is = refl
wait_ahead (suc p) o [] size is = refl
wait_ahead zero o (Piece b ∷ es) size is = absurd (cc is)
wait_ahead zero o (Wait ∷ es) size is = refl
wait_ahead zero o (End ∷ es) size is = absurd (cc is)
wait_ahead zero o (Fail ∷ es) size is = absurd (cc is)
wait_ahead (suc p) o (e ∷ es) size is = wait_ahead p o es size is

read_piece : (size : ℕ) (bytes : List ℕ) (es : List ReadEvent) → 0 < length bytes
    → read_of size (Piece bytes ∷ es) ≡ (reads.Moved (min (length bytes) size), Piece (drop (min (length bytes) size) bytes) ∷ es)
read_piece size [] es lt = absurd (omega arith)
read_piece size (b ∷ bs) es lt = refl

nothing : (o : ℕ) (xs : List ℕ) → xs ≡ drop o [] ++ xs
nothing zero xs = refl
nothing (suc o) xs = refl

left_parts : (p o : ℕ) (es : List ReadEvent) → pieces_in (cut_front o (drop p es)) ≡ drop o (bytes_in (event_at p es)) ++ pieces_in (drop (suc p) es)
left_parts zero o [] = nothing o []
left_parts (suc p) o [] = nothing o []
left_parts zero o (Piece b ∷ es) = refl
left_parts zero o (Wait ∷ es) = nothing o (pieces_in es)
left_parts zero o (End ∷ es) = nothing o (pieces_in es)
left_parts zero o (Fail ∷ es) = nothing o (pieces_in es)
left_parts (suc p) o (e ∷ es) = left_parts p o es

-- ---- the place of a list

abbrev pub next : ReadList → ReadList
next a = record a { passed = a.passed + 1; offset = 0 }

pub same_start : (a : ReadList) → IsSamePlace a a
same_start a = record { events = refl; given = refl; places = refl; reads = λ size. refl }

same_then : (a b c : ReadList) → IsSamePlace a b → IsSamePlace b c → IsSamePlace a c
same_then a b c s t = record { events = t.events ∙ s.events; given = t.given ∙ s.given; places = t.places ∙ s.places; reads = λ size. t.reads size ∙ s.reads size }

passes : (a : ReadList) → IsGivenAt a true → IsSamePlace a (next a)
passes a g = record {
  events = refl;
  given = pass_given a.passed a.offset a.events (omega (arith, g.3, ap (λ (e : ReadEvent). length (bytes_in e)) g.2));
  places = pass_places a.passed a.events (λ w. cc (g.2, w));
  reads = λ size. skip_ahead a.passed a.offset a.events g.0 size g.2 g.3;
}

pub skips : (a b c : ReadList) → IsSamePlace a b → IsGivenAt b true → c ≡ next b → IsSamePlace a c
skips a b c s g e = subst (λ (x : ReadList). IsSamePlace a x) (sym e) (same_then a b (next b) s (passes b g))

gives_from : (a b c : ReadList) (answer : LinkRead) (into : List ℕ) → IsSamePlace a b → ListGives b c answer into → ListGives a c answer into
gives_from a b c (reads.Moved n) into s g = (g.0, g.1, rw (← s.given) g.2, g.3 ∙ s.places)
gives_from a b c reads.NotYet into s g = (g.0 ∙ s.given, rw (← s.given, ← s.places) g.1)
gives_from a b c reads.End into s g = (g.0 ∙ s.given, g.1 ∙ s.places)
gives_from a b c reads.Failed into s g = (g.0 ∙ s.given, g.1 ∙ s.places)

follows_from : (a b c : ReadList) (answer : LinkRead) (size : ℕ) → IsSamePlace a b → IsRead b c answer size ⊎ (IsFull c × (answer ≡ reads.Failed)) → IsRead a c answer size ⊎ (IsFull c × (answer ≡ reads.Failed))
follows_from a b c answer size s (inl r) = inl (sym (s.reads size) ∙ r)
follows_from a b c answer size s (inr f) = inr f

pub reads_from : (a b c : ReadList) (answer : LinkRead) (into : List ℕ) → IsSamePlace a b → ListReads b c answer into → ListReads a c answer into
reads_from a b c answer into s r = record { events = r.events ∙ s.events; gives = gives_from a b c answer into s r.gives; follows = follows_from a b c answer (length into) s r.follows }

ends_here : (b : ReadList) (into : List ℕ) → event_at b.passed b.events ≡ End → ListReads b (next b) reads.End into
ends_here b into e = record {
  events = refl;
  gives = (pass_given b.passed b.offset b.events (omega (arith, ap (λ (x : ReadEvent). length (bytes_in x)) e)), pass_places b.passed b.events (λ w. cc (e, w)));
  follows = inl (ap (read_of (length into)) (ahead_at b.passed b.offset b.events End e (λ w. cc w)));
}

fails_here : (b : ReadList) (into : List ℕ) → event_at b.passed b.events ≡ Fail → ListReads b (next b) reads.Failed into
fails_here b into e = record {
  events = refl;
  gives = (pass_given b.passed b.offset b.events (omega (arith, ap (λ (x : ReadEvent). length (bytes_in x)) e)), pass_places b.passed b.events (λ w. cc (e, w)));
  follows = inl (ap (read_of (length into)) (ahead_at b.passed b.offset b.events Fail e (λ w. cc w)));
}

pub ends : (a b c : ReadList) (into : List ℕ) → IsSamePlace a b → event_at b.passed b.events ≡ End → c ≡ next b → ListReads a c reads.End into
ends a b c into s e n = reads_from a b c reads.End into s (subst (λ (x : ReadList). ListReads b x reads.End into) (sym n) (ends_here b into e))

pub fails : (a b c : ReadList) (into : List ℕ) → IsSamePlace a b → event_at b.passed b.events ≡ Fail → c ≡ next b → ListReads a c reads.Failed into
fails a b c into s e n = reads_from a b c reads.Failed into s (subst (λ (x : ReadList). ListReads b x reads.Failed into) (sym n) (fails_here b into e))

waits_here : (a : ReadList) (into : List ℕ) → event_at a.passed a.events ≡ Wait → ListReads a (next a) reads.NotYet into
waits_here a into e =
    let behind : drop (suc a.passed) a.events ≡ ahead_of (next a) = rw (← add-one a.passed) (sym (cut_none (drop (a.passed + 1) a.events))) in
    record {
      events = refl;
      gives = (wait_given a.passed a.offset a.events e, wait_places a.passed a.offset a.events e);
      follows = inl (wait_ahead a.passed a.offset a.events (length into) e ∙ ap (λ (xs : List ReadEvent). (reads.NotYet, xs)) behind);
    }

pub waits : (a c : ReadList) (into : List ℕ) → event_at a.passed a.events ≡ Wait → c ≡ next a → ListReads a c reads.NotYet into
waits a c into e n = subst (λ (x : ReadList). ListReads a x reads.NotYet into) (sym n) (waits_here a into e)

gives_here : (b : ReadList) (into piece : List ℕ) (count : ℕ) → event_at b.passed b.events ≡ Piece piece → b.offset < length piece → 0 < length into
    → count ≡ min (length (drop b.offset piece)) (length into) → take count into ≡ take count (drop b.offset piece)
    → ListReads b (record b { offset = b.offset + count }) (reads.Moved count) into
gives_here b into piece count e lt some c t =
    let gave : given_by (record b { offset = b.offset + count }) ≡ given_by b ++ take count into
    = more_given b.passed b.offset count b.events
    ∙ ap (λ (x : ReadEvent). given_by b ++ take count (drop b.offset (bytes_in x))) e
    ∙ ap (λ (ys : List ℕ). given_by b ++ ys) (sym t) in
    let rest : List ReadEvent = cut_front 0 (drop (b.passed + 1) b.events) in
    let before : ahead_of b ≡ Piece (drop b.offset piece) ∷ rest = ahead_at b.passed b.offset b.events (Piece piece) e (λ w. cc w) in
    let behind : ahead_of (record b { offset = b.offset + count }) ≡ Piece (drop (b.offset + count) piece) ∷ rest
    = ahead_at b.passed (b.offset + count) b.events (Piece piece) e (λ w. cc w) in
    record {
      events = refl;
      gives = (omega (arith, length-drop b.offset piece), omega arith, gave, refl);
      follows = inl (ap (read_of (length into)) before
          ∙ read_piece (length into) (drop b.offset piece) rest (omega (arith, length-drop b.offset piece))
          ∙ ap (λ (k : ℕ). (reads.Moved k, Piece (drop k (drop b.offset piece)) ∷ rest)) (sym c)
          ∙ ap (λ (xs : List ℕ). (reads.Moved count, Piece xs ∷ rest)) (drop-drop count b.offset piece)
          ∙ ap (λ (xs : List ReadEvent). (reads.Moved count, xs)) (sym behind));
    }

-- the same over the slice of the piece behind what was given
pub gives_rest : (a b : ReadList) (into bytes piece : List ℕ) (count : ℕ) → IsSamePlace a b → event_at b.passed b.events ≡ Piece piece → b.offset < length piece → 0 < length into → bytes ≡ piece
    → count ≡ min (length (take (length bytes - b.offset) (drop b.offset bytes))) (length into) → take count into ≡ take count (take (length bytes - b.offset) (drop b.offset bytes))
    → ListReads a (record b { offset = b.offset + count }) (reads.Moved count) into
gives_rest a b into bytes piece count s e lt some is c t =
    let rest : take (length bytes - b.offset) (drop b.offset bytes) ≡ drop b.offset piece = take_rest bytes b.offset ∙ ap (drop b.offset) is in
    reads_from a b (record b { offset = b.offset + count }) (reads.Moved count) into s (gives_here b into piece count e lt some (rw rest at c) (rw rest at t))

-- what is given and what is left are the bytes of the pieces
pub whole : (a : ReadList) → given_by a ++ left_by a ≡ pieces_in a.events
whole a =
    let passed = pieces_in (passed_of a.passed a.events) in
    let next = bytes_in (event_at a.passed a.events) in
    let behind = pieces_in (drop (suc a.passed) a.events) in
    ap (λ (ys : List ℕ). (passed ++ take a.offset next) ++ ys) (left_parts a.passed a.offset a.events)
    ∙ append_assoc passed (take a.offset next) (drop a.offset next ++ behind)
    ∙ ap (λ (ys : List ℕ). passed ++ ys) (sym (append_assoc (take a.offset next) (drop a.offset next) behind)
    ∙ ap (λ (ys : List ℕ). ys ++ behind) (take-append-drop a.offset next))
    ∙ sym (split_at a.passed a.events)
