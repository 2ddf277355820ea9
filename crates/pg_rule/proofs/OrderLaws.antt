-- What is known of a session stays orderly.
use Rattle.std.proofs.Common.{◌≡◌, ◌≢◌, ℕ, zero, suc, ◌+◌, ◌-◌, ◌<◌, ◌≤◌, ◌^◌, Bool, true, false, cond, not, nat_eq, bytes_eq, List, [], ◌∷◌, ◌++◌, length, take, drop, Option, Some, None, IfSome, codes, decimal, refl, sym, ap, ◌∙◌, subst, arith, eq-eqb, ne_eqb, length-append}
use Rattle.std.specs.Prelude.{find, option_to_list}
use Rattle.std.specs.List.{AllByRecursion, before_first, after_first, position_or_len, last_or}
use Rattle.std.proofs.lemmas.Bool.{eqb-true}
use Rattle.std.proofs.Math.Seq.{take-append_seam}
use Rattle.std.proofs.lemmas.Option.{same_Some}
use Rattle.std.proofs.lemmas.Fmt.{decimal_is_IsNumeral}
use Rattle.std.specs.Str.Parse.{digits_value}
use Rattle.std.proofs.lemmas.Slice.Eq.{bytes_eq-Decides}
use Rattle.pg_wire.specs.Frontend.{Query, statement_name}
use Rattle.pg_wire.specs.Server.{Server}
use Rattle.pg_wire.specs.Groups.{IsBetween}
use Rattle.pg_exchanges.specs.Expecting.{width_at, AreDistinct, HasWidths}
use Rattle.pg_rule.specs.declared.cache.Entry.{Entry}
use Rattle.pg_rule.specs.declared.rule.Rule.{Rule}
use Rattle.pg_rule.specs.Caches.{entry_at, has_number, used, widths_in}
use Rattle.pg_rule.specs.Rules.{new_rule, opened, closed, drawn, hit, holding, kept, forgotten, cleared, IsFull, IsNewest, IsOrderly}
use Rattle.pg_request.specs.Texts.{rollback_text}
use Rattle.pg_rule.specs.Rows.{Group, Exchange, known_widths, start_rollback, rolled_back, Begin, Clear, CanBeAsked}
use Rattle.pg_exchanges.proofs.KindLaws.{widths_had}

-- ---- names

number_of : (m n : ℕ) → m < 2 ^ 64 → n < 2 ^ 64 → decimal m ≡ decimal n → m ≡ n
number_of m n l k e = sym (decimal_is_IsNumeral m l).1 ∙ ap (digits_value 10) e ∙ (decimal_is_IsNumeral n k).1

name_number : (m n : ℕ) → statement_name m ≡ statement_name n → decimal m ≡ decimal n
name_number m n e = cc

pub names_apart : (m n : ℕ) → m < n → n < 2 ^ 64 → bytes_eq (statement_name m) (statement_name n) ≡ false
names_apart m n lt fits = by (bytes_eq (statement_name m) (statement_name n)) refl
  where
    by : (b : Bool) → bytes_eq (statement_name m) (statement_name n) ≡ b → b ≡ false
    by true h = let same = number_of m n (omega (arith, lt, fits)) fits (name_number m n ((bytes_eq-Decides (statement_name m) (statement_name n)).0 h)) in absurd (omega (arith, lt, same))
    by false h = refl

-- ---- lists

pub first_of : {X : Type 0} (P : X → Type 0) (n : ℕ) (xs : List X) → AllByRecursion P xs → AllByRecursion P (take n xs)
first_of P zero xs h = tt
first_of P (suc n) [] h = tt
first_of P (suc n) (x ∷ xs) h = (h.0, first_of P n xs h.1)

pub each_by : (P Q : Entry → Type 0) → ((e : Entry) → P e → Q e) → (es : List Entry) → AllByRecursion P es → AllByRecursion Q es
each_by P Q f [] h = tt
each_by P Q f (e ∷ es) h = (f e h.0, each_by P Q f es h.1)

some_by : (P Q : Entry → Type 0) → ((e : Entry) → P e → Q e) → (o : Option Entry) → IfSome o P → IfSome o Q
some_by P Q f None h = h
some_by P Q f (Some e) h = f e h

fewer : {X : Type 0} (n : ℕ) (xs : List X) → length (take n xs) ≤ n
fewer zero xs = omega arith
fewer (suc n) [] = omega arith
fewer (suc n) (x ∷ xs) = let f = fewer n xs in omega (arith, f)

width_first : (n : ℕ) (es : List Entry) (name : List ℕ) → width_at (widths_in es) name ≡ None → width_at (widths_in (take n es)) name ≡ None
width_first zero es name h = refl
width_first (suc n) [] name h = refl
width_first (suc n) (e ∷ es) name h = by (bytes_eq (statement_name e.statement) name) h (λ k. width_first n es name k)
  where
    by : (b : Bool) → cond b (Some (length e.columns)) (width_at (widths_in es) name) ≡ None → (width_at (widths_in es) name ≡ None → width_at (widths_in (take n es)) name ≡ None) → cond b (Some (length e.columns)) (width_at (widths_in (take n es)) name) ≡ None
    by true k f = absurd cc
    by false k f = f k

distinct_first : (n : ℕ) (es : List Entry) → AreDistinct (widths_in es) → AreDistinct (widths_in (take n es))
distinct_first zero es d = tt
distinct_first (suc n) [] d = tt
distinct_first (suc n) (e ∷ es) d = (width_first n es (statement_name e.statement) d.0, distinct_first n es d.1)

-- a number above all others has a name that none of them has
pub newest_apart : (es : List Entry) (number : ℕ) → AllByRecursion (λ f. f.statement < number) es → number < 2 ^ 64 → width_at (widths_in es) (statement_name number) ≡ None
newest_apart [] number h lt = refl
newest_apart (e ∷ es) number h lt = rw (names_apart e.statement number h.0 lt) (newest_apart es number h.1 lt)

-- ---- without one

abbrev without : (Entry → Bool) → List Entry → List Entry
without p [] = []
without p (e ∷ es) = cond (p e) es (e ∷ without p es)

rest_by : (b : Bool) (e : Entry) (es rest : List Entry) (n : ℕ) → take n es ++ drop (n + 1) es ≡ rest → take (cond (not b) (1 + n) 0) (e ∷ es) ++ drop (cond (not b) (1 + n) 0 + 1) (e ∷ es) ≡ cond b es (e ∷ rest)
rest_by true e es rest n h = refl
rest_by false e es rest n h =
    let one : 1 + n ≡ suc n = omega arith in
    let two : suc n + 1 ≡ suc (n + 1) = omega arith in
    rw (one, two) (ap (λ (xs : List Entry). e ∷ xs) h)

-- what stands before it and behind it
rest_is : (p : Entry → Bool) (es : List Entry) → before_first p es ++ after_first p es ≡ without p es
rest_is p [] = refl
rest_is p (e ∷ es) = rest_by (p e) e es (without p es) (position_or_len p es) (rest_is p es)

kept_without : (P : Entry → Type 0) (p : Entry → Bool) (es : List Entry) → AllByRecursion P es → AllByRecursion P (without p es)
kept_without P p [] h = tt
kept_without P p (e ∷ es) h = by (p e) (kept_without P p es h.1)
  where
    by : (b : Bool) → AllByRecursion P (without p es) → AllByRecursion P (cond b es (e ∷ without p es))
    by true k = h.1
    by false k = (h.0, k)

pub found_has : (P : Entry → Type 0) (p : Entry → Bool) (es : List Entry) (e : Entry) → AllByRecursion P es → find p es ≡ Some e → P e
found_has P p [] e h k = absurd cc
found_has P p (x ∷ es) e h k = by (p x) k (λ l. found_has P p es e h.1 l)
  where
    by : (b : Bool) → cond b (Some x) (find p es) ≡ Some e → (find p es ≡ Some e → P e) → P e
    by true l f = subst P (same_Some x e l) h.0
    by false l f = f l

one_fewer : (p : Entry → Bool) (es : List Entry) (e : Entry) → find p es ≡ Some e → length (without p es) + 1 ≡ length es
one_fewer p [] e k = absurd cc
one_fewer p (x ∷ es) e k = by (p x) k (λ l. one_fewer p es e l)
  where
    by : (b : Bool) → cond b (Some x) (find p es) ≡ Some e → (find p es ≡ Some e → length (without p es) + 1 ≡ length es) → length (cond b es (x ∷ without p es)) + 1 ≡ length (x ∷ es)
    by true l f = omega arith
    by false l f = let r = f l in omega (arith, r)

width_without : (p : Entry → Bool) (es : List Entry) (name : List ℕ) → width_at (widths_in es) name ≡ None → width_at (widths_in (without p es)) name ≡ None
width_without p [] name h = refl
width_without p (e ∷ es) name h = by (p e) (bytes_eq (statement_name e.statement) name) refl h (λ k. width_without p es name k)
  where
    by : (b c : Bool) → bytes_eq (statement_name e.statement) name ≡ c → cond c (Some (length e.columns)) (width_at (widths_in es) name) ≡ None → (width_at (widths_in es) name ≡ None → width_at (widths_in (without p es)) name ≡ None) → width_at (widths_in (cond b es (e ∷ without p es))) name ≡ None
    by b true q k f = absurd cc
    by true false q k f = k
    by false false q k f = rw q (f k)

-- a statement that is found has a width under its name
present : (p : Entry → Bool) (es : List Entry) (e : Entry) → find p es ≡ Some e → width_at (widths_in es) (statement_name e.statement) ≡ None → ⊥
present p [] e h n = absurd cc
present p (x ∷ es) e h n = by (p x) (bytes_eq (statement_name x.statement) (statement_name e.statement)) refl h n (λ k m. present p es e k m)
  where
    by : (b c : Bool) → bytes_eq (statement_name x.statement) (statement_name e.statement) ≡ c → cond b (Some x) (find p es) ≡ Some e → cond c (Some (length x.columns)) (width_at (widths_in es) (statement_name e.statement)) ≡ None → (find p es ≡ Some e → width_at (widths_in es) (statement_name e.statement) ≡ None → ⊥) → ⊥
    by b true q k m f = absurd cc
    by true false q k m f = let yes = (bytes_eq-Decides (statement_name x.statement) (statement_name e.statement)).1 (ap (λ (y : Entry). statement_name y.statement) (same_Some x e k)) in absurd cc
    by false false q k m f = f k m

apart_from : (x e : Entry) (p : Entry → Bool) (es : List Entry) → find p es ≡ Some e → width_at (widths_in es) (statement_name x.statement) ≡ None → bytes_eq (statement_name x.statement) (statement_name e.statement) ≡ false
apart_from x e p es h n = by (bytes_eq (statement_name x.statement) (statement_name e.statement)) refl
  where
    by : (b : Bool) → bytes_eq (statement_name x.statement) (statement_name e.statement) ≡ b → b ≡ false
    by true q = absurd (present p es e h (subst (λ (name : List ℕ). width_at (widths_in es) name ≡ None) ((bytes_eq-Decides (statement_name x.statement) (statement_name e.statement)).0 q) n))
    by false q = refl

-- the others have other names, and each one of its own
distinct_without : (p : Entry → Bool) (es : List Entry) (e : Entry) → find p es ≡ Some e → AreDistinct (widths_in es) → (width_at (widths_in (without p es)) (statement_name e.statement) ≡ None) × AreDistinct (widths_in (without p es))
distinct_without p [] e h d = absurd cc
distinct_without p (x ∷ es) e h d = by (p x) h (λ k. distinct_without p es e k d.1)
  where
    by : (b : Bool) → cond b (Some x) (find p es) ≡ Some e → (find p es ≡ Some e → (width_at (widths_in (without p es)) (statement_name e.statement) ≡ None) × AreDistinct (widths_in (without p es)))
        → (width_at (widths_in (cond b es (x ∷ without p es))) (statement_name e.statement) ≡ None) × AreDistinct (widths_in (cond b es (x ∷ without p es)))
    by true k f = (subst (λ (y : Entry). width_at (widths_in es) (statement_name y.statement) ≡ None) (same_Some x e k) d.0, d.1)
    by false k f =
        let r = f k in
        let no = apart_from x e p es k d.0 in
        (rw no r.0, (width_without p es (statement_name x.statement) d.0, r.1))

all_without : (p : Entry → Bool) (es : List Entry) → find p es ≡ None → without p es ≡ es
all_without p [] h = refl
all_without p (e ∷ es) h = by (p e) h (λ k. all_without p es k)
  where
    by : (b : Bool) → cond b (Some e) (find p es) ≡ None → (find p es ≡ None → without p es ≡ es) → cond b es (e ∷ without p es) ≡ e ∷ es
    by true k f = absurd cc
    by false k f = ap (λ (xs : List Entry). e ∷ xs) (f k)

-- ---- in front

pub used_is : (number : ℕ) (es : List Entry) → used number es ≡ option_to_list (find (has_number number) es) ++ without (has_number number) es
used_is number es = ap (λ (xs : List Entry). option_to_list (find (has_number number) es) ++ xs) (rest_is (has_number number) es)

pub front_each : (P : Entry → Type 0) (p : Entry → Bool) (es : List Entry) (found : Option Entry) → find p es ≡ found → AllByRecursion P es → AllByRecursion P (option_to_list found ++ without p es)
front_each P p es None k h = kept_without P p es h
front_each P p es (Some e) k h = (found_has P p es e h k, kept_without P p es h)

front_length : (p : Entry → Bool) (es : List Entry) (found : Option Entry) → find p es ≡ found → length (option_to_list found ++ without p es) ≡ length es
front_length p es None k = ap (λ (xs : List Entry). length xs) (all_without p es k)
front_length p es (Some e) k = let r = one_fewer p es e k in omega (arith, r)

front_distinct : (p : Entry → Bool) (es : List Entry) (found : Option Entry) → find p es ≡ found → AreDistinct (widths_in es) → AreDistinct (widths_in (option_to_list found ++ without p es))
front_distinct p es None k d = subst (λ (xs : List Entry). AreDistinct (widths_in xs)) (sym (all_without p es k)) d
front_distinct p es (Some e) k d = distinct_without p es e k d

abbrev IsDrawn : Rule → Entry → Type 0
IsDrawn rule e = (0 < e.statement) × (e.statement < rule.next)

-- the one that is held is of one number more, and of one name more
with_held : (rule : Rule) (held : Option Entry) → IsOrderly rule → IfSome held (λ e. IsNewest e rule) → AllByRecursion (IsDrawn rule) (option_to_list held ++ rule.cache.entries) × AreDistinct (widths_in (option_to_list held ++ rule.cache.entries))
with_held rule None o n = (o.numbered, o.distinct)
with_held rule (Some e) o n = (((n.0, n.1), o.numbered), (newest_apart rule.cache.entries e.statement n.2 (omega (arith, n.1, o.ends)), o.distinct))

-- ---- the moves

pub new_orderly : (capacity : ℕ) → IsOrderly (new_rule capacity)
new_orderly capacity = record { starts = omega arith; ends = omega arith; bounded = omega arith; fits = omega arith; numbered = tt; distinct = tt; newest = tt }

pub depth_orderly : (rule : Rule) → IsOrderly rule → IsOrderly (opened rule) × IsOrderly (closed rule)
depth_orderly rule o = (
  record { starts = o.starts; ends = o.ends; bounded = o.bounded; fits = o.fits; numbered = o.numbered; distinct = o.distinct; newest = o.newest },
  record { starts = o.starts; ends = o.ends; bounded = o.bounded; fits = o.fits; numbered = o.numbered; distinct = o.distinct; newest = o.newest },
)

pub draw_orderly : (rule : Rule) → rule.next < 2 ^ 32 → IsOrderly rule → IsOrderly (drawn rule)
draw_orderly rule lt o = record {
  starts = omega arith;
  ends = omega (arith, lt);
  bounded = o.bounded;
  fits = o.fits;
  numbered = each_by (IsDrawn rule) (IsDrawn (drawn rule)) (λ e h. (h.0, omega (arith, h.1))) rule.cache.entries o.numbered;
  distinct = o.distinct;
  newest = some_by (λ e. IsNewest e rule) (λ e. IsNewest e (drawn rule)) (λ e n. (n.0, omega (arith, n.1), n.2)) rule.cache.held o.newest;
}

pub touch_orderly : (rule : Rule) (number : ℕ) → IsOrderly rule → IsOrderly (hit number rule)
touch_orderly rule number o =
    let p = has_number number in
    let es = rule.cache.entries in
    let many = front_length p es (find p es) refl in
    subst (λ (xs : List Entry). IsOrderly (record rule { cache = record rule.cache { entries = xs } })) (sym (used_is number es)) (record {
      starts = o.starts;
      ends = o.ends;
      bounded = o.bounded;
      fits = omega (arith, many, o.fits);
      numbered = front_each (IsDrawn rule) p es (find p es) refl o.numbered;
      distinct = front_distinct p es (find p es) refl o.distinct;
      newest = some_by (λ e. IsNewest e rule) (λ e. (0 < e.statement) × (e.statement < rule.next) × AllByRecursion (λ f. f.statement < e.statement) (option_to_list (find p es) ++ without p es))
          (λ e n. (n.0, n.1, front_each (λ f. f.statement < e.statement) p es (find p es) refl n.2)) rule.cache.held o.newest;
    })

pub hold_orderly : (rule : Rule) (e : Entry) → IsOrderly rule → IsNewest e rule → IsOrderly (holding e rule)
hold_orderly rule e o n = record { starts = o.starts; ends = o.ends; bounded = o.bounded; fits = o.fits; numbered = o.numbered; distinct = o.distinct; newest = n }

pub put_orderly : (rule : Rule) → IsOrderly rule → IsOrderly (kept rule)
put_orderly rule o =
    let all = option_to_list rule.cache.held ++ rule.cache.entries in
    let h = with_held rule rule.cache.held o o.newest in
    record {
      starts = o.starts;
      ends = o.ends;
      bounded = o.bounded;
      fits = fewer rule.capacity all;
      numbered = first_of (IsDrawn rule) rule.capacity all h.0;
      distinct = distinct_first rule.capacity all h.1;
      newest = tt;
    }

pub forget_orderly : (rule : Rule) → IsOrderly rule → IsOrderly (forgotten rule)
forget_orderly rule o = record { starts = o.starts; ends = o.ends; bounded = o.bounded; fits = o.fits; numbered = o.numbered; distinct = o.distinct; newest = tt }

pub clear_orderly : (rule : Rule) → IsOrderly rule → IsOrderly (cleared rule)
clear_orderly rule o = record { starts = o.starts; ends = o.ends; bounded = o.bounded; fits = omega arith; numbered = tt; distinct = tt; newest = tt }

pub drawn_newest : (rule : Rule) (e : Entry) → IsOrderly rule → e.statement ≡ rule.next → IsNewest e (drawn rule)
drawn_newest rule e o is = (omega (arith, is, o.starts), omega (arith, is), each_by (IsDrawn rule) (λ f. f.statement < e.statement) (λ f h. omega (arith, h.1, is)) rule.cache.entries o.numbered)

pub server_had : (rule : Rule) (done : List Exchange) → IsOrderly rule → (server : Server) × IsBetween server × HasWidths server (known_widths rule done)
server_had rule done o = widths_had (widths_in rule.cache.entries) o.distinct

pub closes_asked : (rule : Rule) → IsOrderly rule → CanBeAsked rule Clear
closes_asked rule o = each_by (IsDrawn rule) (λ e. e.statement < 2 ^ 32) (λ e h. omega (arith, h.1, o.ends)) rule.cache.entries o.numbered

-- ---- what a hit moves

-- a statement has a width under its name
named : (before after : List Entry) (e : Entry) → width_at (widths_in (before ++ e ∷ after)) (statement_name e.statement) ≡ None → ⊥
named [] after e h = let yes = (bytes_eq-Decides (statement_name e.statement) (statement_name e.statement)).1 refl in let none = rw yes at h in absurd cc
named (f ∷ before) after e h = by (bytes_eq (statement_name f.statement) (statement_name e.statement)) h (λ k. named before after e k)
  where
    by : (b : Bool) → cond b (Some (length f.columns)) (width_at (widths_in (before ++ e ∷ after)) (statement_name e.statement)) ≡ None → (width_at (widths_in (before ++ e ∷ after)) (statement_name e.statement) ≡ None → ⊥) → ⊥
    by true k g = absurd cc
    by false k g = g k

-- of distinct names the one of its number is the first of it
first_named : (before after : List Entry) (e : Entry) → AreDistinct (widths_in (before ++ e ∷ after))
    → (find (has_number e.statement) (before ++ e ∷ after) ≡ Some e) × (without (has_number e.statement) (before ++ e ∷ after) ≡ before ++ after)
first_named [] after e d = let same = eq-eqb e.statement e.statement refl in (rw same refl, rw same refl)
first_named (f ∷ before) after e d = by (nat_eq f.statement e.statement) refl (first_named before after e d.1)
  where
    by : (b : Bool) → nat_eq f.statement e.statement ≡ b → (find (has_number e.statement) (before ++ e ∷ after) ≡ Some e) × (without (has_number e.statement) (before ++ e ∷ after) ≡ before ++ after)
        → (cond b (Some f) (find (has_number e.statement) (before ++ e ∷ after)) ≡ Some e) × (cond b (before ++ e ∷ after) (f ∷ without (has_number e.statement) (before ++ e ∷ after)) ≡ f ∷ (before ++ after))
    by true q r = absurd (named before after e (subst (λ (n : ℕ). width_at (widths_in (before ++ e ∷ after)) (statement_name n) ≡ None) (eqb-true _ _ q) d.0))
    by false q r = (r.0, ap (λ (xs : List Entry). f ∷ xs) r.1)

pub hit_moves : (rule : Rule) (before after : List Entry) (e : Entry) → IsOrderly rule → rule.cache.entries ≡ before ++ e ∷ after → (hit e.statement rule).cache.entries ≡ e ∷ (before ++ after)
hit_moves rule before after e o is =
    let r = first_named before after e (subst (λ (xs : List Entry). AreDistinct (widths_in xs)) is o.distinct) in
    ap (used e.statement) is ∙ used_is e.statement (before ++ e ∷ after) ∙ rw (r.0, r.1) refl

none_named : (number : ℕ) (es : List Entry) → AllByRecursion (λ e. e.statement ≢ number) es → find (has_number number) es ≡ None
none_named number [] h = refl
none_named number (e ∷ es) h = let no = ne_eqb e.statement number h.0 in rw no (none_named number es h.1)

pub hit_nothing : (rule : Rule) (number : ℕ) → AllByRecursion (λ e. e.statement ≢ number) rule.cache.entries → hit number rule ≡ rule
hit_nothing rule number h =
    let none = none_named number rule.cache.entries h in
    ap (λ (xs : List Entry). record rule { cache = record rule.cache { entries = xs } }) (used_is number rule.cache.entries ∙ rw none (all_without (has_number number) rule.cache.entries none))

-- ---- what a put lets go

ends_by : (e last : Entry) (es : List Entry) → last_or (Some e) es ≡ Some last → (others : List Entry) × (e ∷ es ≡ others ++ last ∷ [])
ends_by e last [] h = ([], ap (λ (x : Entry). x ∷ []) (same_Some e last h))
ends_by e last (f ∷ es) h = let r = ends_by f last es h in (e ∷ r.0, ap (λ (xs : List Entry). e ∷ xs) r.1)

pub ends_in : (last : Entry) (es : List Entry) → last_or None es ≡ Some last → (others : List Entry) × (es ≡ others ++ last ∷ [])
ends_in last [] h = absurd cc
ends_in last (e ∷ es) h = ends_by e last es h

cut : (capacity : ℕ) (es others : List Entry) (e last : Entry) → es ≡ others ++ last ∷ [] → capacity ≡ length es → take capacity (e ∷ es) ≡ e ∷ others
cut capacity es others e last is many =
    let n : capacity ≡ suc (length others) = omega (arith, many, ap (λ (xs : List Entry). length xs) is, length-append others (last ∷ [])) in
    rw (n, is) (ap (λ (xs : List Entry). e ∷ xs) (take-append_seam others (last ∷ [])))

pub put_full : (rule : Rule) (e last : Entry) → IsOrderly rule → IsFull rule → rule.cache.held ≡ Some e → last_or None rule.cache.entries ≡ Some last
    → (others : List Entry) × (rule.cache.entries ≡ others ++ last ∷ []) × ((kept rule).cache.entries ≡ e ∷ others)
put_full rule e last o full held is =
    let r = ends_in last rule.cache.entries is in
    (r.0, r.1, rw held (cut rule.capacity rule.cache.entries r.0 e last r.1 (omega (arith, full, o.fits))))

found_first : (capacity : ℕ) (e : Entry) (es : List Entry) → 0 < capacity → entry_at e.sql (take capacity (e ∷ es)) ≡ Some e
found_first zero e es h = absurd (omega (arith, h))
found_first (suc n) e es h = let same = (bytes_eq-Decides e.sql e.sql).1 refl in rw same refl

pub put_found : (rule : Rule) (e : Entry) → 0 < rule.capacity → rule.cache.held ≡ Some e → entry_at e.sql (kept rule).cache.entries ≡ Some e
put_found rule e some held = rw held (found_first rule.capacity e rule.cache.entries some)

-- ---- a rollback without a call

open_by : (b : Bool) (group : Group) → b ≡ false → cond b [] (group ∷ []) ≡ group ∷ []
open_by true group e = absurd cc
open_by false group e = refl

no_zero : (n : ℕ) → 0 < n → nat_eq n 0 ≡ false
no_zero n h = ne_eqb n 0 (λ e. absurd (omega (arith, e, h)))

pub rolls_open : (rule : Rule) → 0 < rule.depth → start_rollback rule ≡ (Query (rollback_text (rule.depth - 1)) ∷ []) ∷ []
rolls_open rule h = open_by (nat_eq rule.depth 0) (Query (rollback_text (rule.depth - 1)) ∷ []) (no_zero rule.depth h)

pub rolls_nothing : (rule : Rule) → rule.depth ≡ 0 → start_rollback rule ≡ []
rolls_nothing rule e = let same = eq-eqb rule.depth 0 e in rw same refl

pub begin_rolls : (old : Rule) (text : Option (List ℕ)) → old.depth ≡ 0 → rolled_back old (Begin text) ≡ (Query (codes "ROLLBACK") ∷ []) ∷ []
begin_rolls old text e = rw e refl
