-- What is read of a text from left to right is what the grammar says, and each text of the grammar is read.
use Rattle.std.proofs.Common.{◌≡◌, ℕ, zero, suc, ◌+◌, ◌≤◌, ◌⊎◌, inl, inr, Bool, true, false, cond, eqb, List, [], ◌∷◌, ◌++◌, length, Option, Some, None, refl, sym, ap, subst, ◌∙◌, append_assoc, arith, eqb-true, ne_eqb, eq-eqb}
use Rattle.std.specs.Prelude.{◌≢◌, ◌||◌, ◌&&◌, IsTrue, IsUtf8, bytes_eq}
use Rattle.std.specs.List.{AllByRecursion}
use Rattle.std.specs.Str.{is_utf8}
use Rattle.std.proofs.lemmas.List.{length-append, nil_from_length}
use Rattle.std.proofs.lemmas.Str.{IsUtf8-from_is_utf8, is_utf8-from_IsUtf8}
use Rattle.std.proofs.lemmas.Slice.Eq.{bytes_eq-Decides}
use Rattle.pg_wire.proofs.ReaderLaws.{bind_some}
use Rattle.pg_values.specs.declared.style.Style.{Style}
use Rattle.pg_values.specs.declared.style.Style.TheVariants as styles
use Rattle.pg_values.specs.Texts.{closing, null_text, is_plain, IsKept, IsCharacter, IsQuoted, SpellsItem, SpellsItems, SpellsRest, ArrayTextOf, RecordTextOf}
use Rattle.pg_values.specs.TextReading.{kept_at, character_at, with_byte, quoted_at, plain_at, plain_item, quoted_item, if_text, quoted_text_at, plain_text_at, item_at, after_item, more_items, items_in}
use Rattle.pg_wire.proofs.Tests.{both_true, neither_true, not_true, chosen}
use Rattle.std.proofs.lemmas.Option.{cond_some, same_Some}

abbrev Char : Type 0
Char = Option ℕ × List ℕ

abbrev at : Option ℕ → List ℕ → Char
at c rest = (c, rest)

abbrev Part : Type 0
Part = List ℕ × List ℕ

abbrev part : List ℕ → List ℕ → Part
part s rest = (s, rest)

abbrev Item : Type 0
Item = Option (List ℕ) × List ℕ

abbrev item : Option (List ℕ) → List ℕ → Item
item x rest = (x, rest)

-- ---- a byte in quotes

abbrev TakesChar : Style → List ℕ → Char → Type 0
TakesChar style bytes (None, after) = bytes ≡ 34 ∷ after
TakesChar style bytes (Some c, after) = (a : List ℕ) × IsCharacter style c a × (bytes ≡ a ++ after)

not_eq : (a b : ℕ) → eqb a b ≡ false → a ≡ b → ⊥
not_eq a b e f = let t : eqb a b ≡ true = eq-eqb a b f in absurd cc

or_cases : (a b : Bool) → (a || b) ≡ true → (a ≡ true) ⊎ (b ≡ true)
or_cases true b e = inl refl
or_cases false b e = inr e

plain_char : (style : Style) (c : ℕ) (after : List ℕ) → eqb c 34 ≡ false → eqb c 92 ≡ false → TakesChar style (c ∷ after) (at (Some c) after)
plain_char style c after e f = (c ∷ [], inr (refl, not_eq c 34 e, not_eq c 92 f), refl)

kept_takes : (style : Style) (c d : ℕ) (rest : List ℕ) (x : Char) → (c ≡ 34) ⊎ (c ≡ 92) → kept_at style c d rest ≡ Some x → TakesChar style (c ∷ d ∷ rest) x
kept_takes styles.Array c d rest x q e =
    elim (chosen (eqb c 34) (Some (at None (d ∷ rest))) (Some (at (Some d) rest)) (Some x) e) [
      | inl p ↦ subst (TakesChar styles.Array (c ∷ d ∷ rest)) (same_Some (at None (d ∷ rest)) x p.1) (ap (λ (n : ℕ). n ∷ d ∷ rest) (eqb-true c 34 p.0))
      | inr p ↦ elim q [
        | inl z ↦ absurd (not_eq c 34 p.0 z)
        | inr z ↦ subst (TakesChar styles.Array (c ∷ d ∷ rest)) (same_Some (at (Some d) rest) x p.1) (92 ∷ d ∷ [], inl refl, ap (λ (n : ℕ). n ∷ d ∷ rest) z)
      ]
    ]
kept_takes styles.Record c d rest x q e =
    elim (chosen (eqb d c) (Some (at (Some c) rest)) (cond (eqb c 34) (Some (at None (d ∷ rest))) None) (Some x) e) [
      | inl p ↦ subst (TakesChar styles.Record (c ∷ d ∷ rest)) (same_Some (at (Some c) rest) x p.1) (c ∷ c ∷ [], inl (refl, q), ap (λ (n : ℕ). c ∷ n ∷ rest) (eqb-true d c p.0))
      | inr p ↦
          let g = cond_some (eqb c 34) (at None (d ∷ rest)) x p.1 in
          subst (TakesChar styles.Record (c ∷ d ∷ rest)) g.1 (ap (λ (n : ℕ). n ∷ d ∷ rest) (eqb-true c 34 g.0))
    ]

character_takes : (style : Style) (bytes : List ℕ) (x : Char) → character_at style bytes ≡ Some x → TakesChar style bytes x
unfolding character_at
character_takes style [] x e = absurd cc
character_takes style (c ∷ []) x e =
    elim (chosen (eqb c 34) (Some (at None [])) (cond (eqb c 92) None (Some (at (Some c) []))) (Some x) e) [
      | inl p ↦ subst (TakesChar style (c ∷ [])) (same_Some (at None []) x p.1) (ap (λ (n : ℕ). n ∷ []) (eqb-true c 34 p.0))
      | inr p ↦ elim (chosen (eqb c 92) None (Some (at (Some c) [])) (Some x) p.1) [
        | inl q ↦ absurd (none_is x q.1)
        | inr q ↦ subst (TakesChar style (c ∷ [])) (same_Some (at (Some c) []) x q.1) (plain_char style c [] p.0 q.0)
      ]
    ]
  where
    none_is : (x : Char) → None ≡ Some x → ⊥
    none_is x e = cc
character_takes style (c ∷ d ∷ rest) x e =
    elim (chosen (eqb c 34 || eqb c 92) (kept_at style c d rest) (Some (at (Some c) (d ∷ rest))) (Some x) e) [
      | inl p ↦ kept_takes style c d rest x (elim (or_cases (eqb c 34) (eqb c 92) p.0) [ inl q ↦ inl (eqb-true c 34 q) | inr q ↦ inr (eqb-true c 92 q) ]) p.1
      | inr p ↦
          let n = neither_true (eqb c 34) (eqb c 92) p.0 in
          subst (TakesChar style (c ∷ d ∷ rest)) (same_Some (at (Some c) (d ∷ rest)) x p.1) (plain_char style c (d ∷ rest) n.0 n.1)
    ]

character_plain : (style : Style) (c : ℕ) (rest : List ℕ) → (c ≢ 34) → (c ≢ 92) → character_at style (c ∷ rest) ≡ Some (at (Some c) rest)
unfolding character_at
character_plain style c [] e f = rw (ne_eqb c 34 e, ne_eqb c 92 f) refl
character_plain style c (d ∷ rest) e f = rw (ne_eqb c 34 e, ne_eqb c 92 f) refl

character_kept : (style : Style) (c : ℕ) (a rest : List ℕ) → IsKept style c a → character_at style (a ++ rest) ≡ Some (at (Some c) rest)
unfolding character_at
character_kept styles.Array c a rest k = rw k refl
character_kept styles.Record c a rest k = rw k.0 (elim k.1 [ inl e ↦ rw e refl | inr e ↦ rw e refl ])

character_again : (style : Style) (c : ℕ) (a rest : List ℕ) → IsCharacter style c a → character_at style (a ++ rest) ≡ Some (at (Some c) rest)
character_again style c a rest h = elim h [
  | inl k ↦ character_kept style c a rest k
  | inr p ↦ rw p.0 (character_plain style c rest p.1 p.2)
]

-- what may follow an item
abbrev IsStop : Style → List ℕ → Type 0
IsStop style [] = Unit {0}
IsStop style (c ∷ rest) = (c ≢ 34) × (is_plain style c ≡ false)

quote_ends : (style : Style) (rest : List ℕ) → IsStop style rest → character_at style (34 ∷ rest) ≡ Some (at None rest)
unfolding character_at
quote_ends style [] h = refl
quote_ends styles.Array (d ∷ rest) h = refl
quote_ends styles.Record (d ∷ rest) h = rw (ne_eqb d 34 h.0) refl

-- ---- in quotes

quoted_takes : (style : Style) (n : ℕ) (bytes : List ℕ) (x : Part) → quoted_at style n bytes ≡ Some x → (q : List ℕ) × IsQuoted style x.0 q × (bytes ≡ q ++ 34 ∷ x.1)
unfolding quoted_at
quoted_takes style zero bytes x e = absurd cc
quoted_takes style (suc n) bytes x e =
    let a = bind_some (character_at style bytes) (λ c. with_byte c (quoted_at style n)) x e in
    by_char style n bytes a.0 x (character_takes style bytes a.0 a.1) a.2 (λ rest y h. quoted_takes style n rest y h)
  where
    by_char : (style : Style) (n : ℕ) (bytes : List ℕ) (c : Char) (x : Part) → TakesChar style bytes c → with_byte c (quoted_at style n) ≡ Some x
        → ((rest : List ℕ) (y : Part) → quoted_at style n rest ≡ Some y → (q : List ℕ) × IsQuoted style y.0 q × (rest ≡ q ++ 34 ∷ y.1)) → (q : List ℕ) × IsQuoted style x.0 q × (bytes ≡ q ++ 34 ∷ x.1)
    by_char style n bytes (None, after) x t e h = subst (λ (y : Part). (q : List ℕ) × IsQuoted style y.0 q × (bytes ≡ q ++ 34 ∷ y.1)) (same_Some (part [] after) x e) ([], refl, t)
    by_char style n bytes (Some c, after) x t e h =
        let b = bind_some (quoted_at style n after) (λ y. Some (part (c ∷ y.0) y.1)) x e in
        let r = h after b.0 b.1 in
        subst (λ (y : Part). (q : List ℕ) × IsQuoted style y.0 q × (bytes ≡ q ++ 34 ∷ y.1)) (same_Some (part (c ∷ b.0.0) b.0.1) x b.2)
        (t.0 ++ r.0, (t.0, r.0, t.1, r.1, refl), t.2 ∙ ap (λ (u : List ℕ). t.0 ++ u) r.2 ∙ sym (append_assoc t.0 r.0 (34 ∷ b.0.1)))

character_size : (style : Style) (c : ℕ) (a : List ℕ) → IsCharacter style c a → 1 ≤ length a
character_size styles.Array c a h = elim h [ inl k ↦ rw k (omega arith) | inr p ↦ rw p.0 (omega arith) ]
character_size styles.Record c a h = elim h [ inl k ↦ rw k.0 (omega arith) | inr p ↦ rw p.0 (omega arith) ]

quoted_again : (style : Style) (s q rest : List ℕ) (n : ℕ) → IsQuoted style s q → IsStop style rest → length (q ++ 34 ∷ rest) ≤ n → quoted_at style n (q ++ 34 ∷ rest) ≡ Some (part s rest)
unfolding quoted_at
quoted_again style [] q rest zero h stop le = absurd (omega (arith, le, length-append q (34 ∷ rest)))
quoted_again style [] q rest (suc n) h stop le = rw (h, quote_ends style rest stop) refl
quoted_again style (c ∷ cs) q rest zero h stop le = absurd (omega (arith, le, length-append q (34 ∷ rest)))
quoted_again style (c ∷ cs) q rest (suc n) h stop le =
    let x : List ℕ = h.0 in
    let y : List ℕ = h.1 in
    let small : length (y ++ 34 ∷ rest) ≤ n = omega (arith, le, character_size style c x h.2, ap length h.4, length-append x y, length-append q (34 ∷ rest), length-append y (34 ∷ rest)) in
    let made : q ++ 34 ∷ rest ≡ x ++ (y ++ 34 ∷ rest) = ap (λ (u : List ℕ). u ++ 34 ∷ rest) h.4 ∙ append_assoc x y (34 ∷ rest) in
    rw (made, character_again style c x (y ++ 34 ∷ rest) h.2, quoted_again style cs y rest n h.3 stop small) refl

-- ---- without quotes

abbrev ArePlain : Style → List ℕ → Type 0
ArePlain style s = AllByRecursion (λ c. IsTrue (is_plain style c)) s

plain_takes : (style : Style) (bytes : List ℕ) → ArePlain style (plain_at style bytes).0 × (bytes ≡ (plain_at style bytes).0 ++ (plain_at style bytes).1)
unfolding plain_at
plain_takes style [] = (tt, refl)
plain_takes style (c ∷ rest) = by_test style c rest (is_plain style c) refl (plain_takes style rest)
  where
    by_test : (style : Style) (c : ℕ) (rest : List ℕ) (b : Bool) → is_plain style c ≡ b → ArePlain style (plain_at style rest).0 × (rest ≡ (plain_at style rest).0 ++ (plain_at style rest).1)
        → ArePlain style (cond b (part (c ∷ (plain_at style rest).0) (plain_at style rest).1) (part [] (c ∷ rest))).0
        × (c ∷ rest ≡ (cond b (part (c ∷ (plain_at style rest).0) (plain_at style rest).1) (part [] (c ∷ rest))).0 ++ (cond b (part (c ∷ (plain_at style rest).0) (plain_at style rest).1) (part [] (c ∷ rest))).1)
    by_test style c rest true e h = ((e, h.0), ap (λ (u : List ℕ). c ∷ u) h.1)
    by_test style c rest false e h = (tt, refl)

plain_again : (style : Style) (s rest : List ℕ) → ArePlain style s → IsStop style rest → plain_at style (s ++ rest) ≡ part s rest
unfolding plain_at
plain_again style [] [] h stop = refl
plain_again style [] (c ∷ rest) h stop = rw stop.1 refl
plain_again style (c ∷ cs) rest h stop = rw (h.0, plain_again style cs rest h.1 stop) refl

-- ---- items

abbrev TakesItem : Style → List ℕ → Item → Type 0
TakesItem style bytes x = (a : List ℕ) × SpellsItem style x.0 a × (bytes ≡ a ++ x.1)

text_is : (y x : Item) → if_text y ≡ Some x → (y ≡ x) × ((s : List ℕ) → x.0 ≡ Some s → IsUtf8 s)
text_is (None, rest) x e = (same_Some (item None rest) x e, λ s f. absurd (is_none x s (same_Some (item None rest) x e) f))
  where
    is_none : (x : Item) (s : List ℕ) → item None rest ≡ x → x.0 ≡ Some s → ⊥
    is_none x s e f = let g : None ≡ Some s = ap (λ (y : Item). y.0) e ∙ f in absurd cc
text_is (Some t, rest) x e =
    let g = cond_some (is_utf8 t) (item (Some t) rest) x e in
    (g.1, λ s f. subst IsUtf8 (same_Some t s (ap (λ (y : Item). y.0) g.1 ∙ f)) (IsUtf8-from_is_utf8 t g.0))

quoted_item_is : (q : Option Part) (y : Item) → quoted_item q ≡ Some y → (p : Part) × (q ≡ Some p) × (item (Some p.0) p.1 ≡ y)
quoted_item_is None y e = absurd cc
quoted_item_is (Some (t, rest)) y e = (part t rest, refl, same_Some (item (Some t) rest) y e)

quoted_text_takes : (style : Style) (c : ℕ) (bytes : List ℕ) (x : Item) → c ≡ 34 → quoted_text_at style bytes ≡ Some x → TakesItem style (c ∷ bytes) x
quoted_text_takes style c bytes x at34 e =
    let a = bind_some (quoted_item (quoted_at style (length bytes) bytes)) if_text x e in
    let p = quoted_item_is (quoted_at style (length bytes) bytes) a.0 a.1 in
    let t = text_is a.0 x a.2 in
    let q = quoted_takes style (length bytes) bytes p.0 p.1 in
    let same : item (Some p.0.0) p.0.1 ≡ x = p.2 ∙ t.0 in
    let utf8 : IsUtf8 p.0.0 = t.1 p.0.0 (ap (λ (y : Item). y.0) (sym same)) in
    let made : c ∷ bytes ≡ (34 ∷ q.0 ++ 34 ∷ []) ++ p.0.1 = ap (λ (n : ℕ). n ∷ bytes) at34 ∙ ap (λ (u : List ℕ). 34 ∷ u) (q.2 ∙ sym (append_assoc q.0 (34 ∷ []) p.0.1)) in
    subst (TakesItem style (c ∷ bytes)) same (34 ∷ q.0 ++ 34 ∷ [], (utf8, inl (q.0, q.1, refl)), made)

pub false_true : (b : Bool) → b ≡ false → b ≡ true → ⊥
false_true b e f = cc

is_same : (s t : List ℕ) → s ≡ t → bytes_eq s t ≡ true
is_same s t e = (bytes_eq-Decides s t).1 e

plain_text_takes : (style : Style) (bytes : List ℕ) (x : Item) → plain_text_at style bytes ≡ Some x → TakesItem style bytes x
plain_text_takes style bytes x e =
    let a = bind_some (plain_item style (plain_at style bytes)) if_text x e in
    by_part style bytes (plain_at style bytes) (plain_takes style bytes) a.0 x a.1 (text_is a.0 x a.2)
  where
    none_is : (y : Item) → None ≡ Some y → ⊥
    none_is y e = cc

    by_part : (style : Style) (bytes : List ℕ) (p : Part) → ArePlain style p.0 × (bytes ≡ p.0 ++ p.1) → (y x : Item) → plain_item style p ≡ Some y → (y ≡ x) × ((s : List ℕ) → x.0 ≡ Some s → IsUtf8 s) → TakesItem style bytes x
    by_part style bytes (t, rest) h y x e k =
        elim (chosen (bytes_eq t (null_text style)) (Some (item None rest)) (cond (eqb (length t) 0) None (Some (item (Some t) rest))) (Some y) e) [
          | inl n ↦ subst (TakesItem style bytes) (same_Some (item None rest) y n.1 ∙ k.0) (t, (bytes_eq-Decides t (null_text style)).0 n.0, h.1)
          | inr n ↦ elim (chosen (eqb (length t) 0) None (Some (item (Some t) rest)) (Some y) n.1) [
            | inl m ↦ absurd (none_is y m.1)
            | inr m ↦
                let same : item (Some t) rest ≡ x = same_Some (item (Some t) rest) y m.1 ∙ k.0 in
                let utf8 : IsUtf8 t = k.1 t (ap (λ (z : Item). z.0) (sym same)) in
                let full : t ≢ [] = λ z. not_eq (length t) 0 m.0 (ap length z) in
                let other : t ≢ null_text style = λ z. false_true (bytes_eq t (null_text style)) n.0 (is_same t (null_text style) z) in
                subst (TakesItem style bytes) same (t, (utf8, inr (refl, full, other, h.0)), h.1)
          ]
        ]

item_takes : (style : Style) (bytes : List ℕ) (x : Item) → item_at style bytes ≡ Some x → TakesItem style bytes x
unfolding item_at
item_takes style [] x e = plain_text_takes style [] x e
item_takes style (c ∷ rest) x e =
    elim (chosen (eqb c 34) (quoted_text_at style rest) (plain_text_at style (c ∷ rest)) (Some x) e) [
      | inl p ↦ quoted_text_takes style c rest x (eqb-true c 34 p.0) p.1
      | inr p ↦ plain_text_takes style (c ∷ rest) x p.1
    ]

-- ---- and back

quoted_text_again : (style : Style) (s q rest : List ℕ) → IsUtf8 s → IsQuoted style s q → IsStop style rest → quoted_text_at style (q ++ 34 ∷ rest) ≡ Some (item (Some s) rest)
quoted_text_again style s q rest utf8 h stop = rw (quoted_again style s q rest (length (q ++ 34 ∷ rest)) h stop (omega arith), is_utf8-from_IsUtf8 s utf8) refl

plain_null_again : (style : Style) (rest : List ℕ) → IsStop style rest → plain_text_at style (null_text style ++ rest) ≡ Some (item None rest)
plain_null_again styles.Array rest stop = rw (plain_again styles.Array (null_text styles.Array) rest (refl, (refl, (refl, (refl, tt)))) stop) refl
plain_null_again styles.Record rest stop = rw (plain_again styles.Record [] rest tt stop) refl

plain_text_again : (style : Style) (s rest : List ℕ) → IsUtf8 s → (s ≢ []) → (s ≢ null_text style) → ArePlain style s → IsStop style rest → plain_text_at style (s ++ rest) ≡ Some (item (Some s) rest)
plain_text_again style s rest utf8 full other plain stop =
    let no_null : bytes_eq s (null_text style) ≡ false = not_true (bytes_eq s (null_text style)) (λ e. other ((bytes_eq-Decides s (null_text style)).0 e)) in
    let not_empty : eqb (length s) 0 ≡ false = ne_eqb (length s) 0 (λ e. full (nil_of s e)) in
    rw (plain_again style s rest plain stop, no_null, not_empty, is_utf8-from_IsUtf8 s utf8) refl
  where
    nil_of : (s : List ℕ) → length s ≡ 0 → s ≡ []
    nil_of [] e = refl
    nil_of (c ∷ cs) e = absurd (omega (arith, e))

no_quote : (style : Style) (c : ℕ) → IsTrue (is_plain style c) → c ≡ 34 → ⊥
no_quote styles.Array c h e = let f = rw e at h in absurd cc
no_quote styles.Record c h e = let f = rw e at h in absurd cc

plain_start : (style : Style) (bytes : List ℕ) (x : Item) → ((c : ℕ) (rest : List ℕ) → bytes ≡ c ∷ rest → c ≡ 34 → ⊥) → plain_text_at style bytes ≡ Some x → item_at style bytes ≡ Some x
unfolding item_at
plain_start style [] x h e = e
plain_start style (c ∷ rest) x h e = rw (ne_eqb c 34 (h c rest refl)) e

head_is : (c d : ℕ) (xs ys : List ℕ) → c ∷ xs ≡ d ∷ ys → c ≡ d
head_is c d xs ys e = cc

stop_start : (style : Style) (rest : List ℕ) → IsStop style rest → (c : ℕ) (more : List ℕ) → rest ≡ c ∷ more → c ≡ 34 → ⊥
stop_start style [] h c more e f = absurd cc
stop_start style (d ∷ rest) h c more e f = h.0 (head_is d c rest more e ∙ f)

null_start : (style : Style) (rest : List ℕ) → IsStop style rest → (c : ℕ) (more : List ℕ) → null_text style ++ rest ≡ c ∷ more → c ≡ 34 → ⊥
null_start styles.Array rest h c more e f = let g : 78 ≡ 34 = head_is 78 c (85 ∷ 76 ∷ 76 ∷ rest) more e ∙ f in absurd (omega (arith, g))
null_start styles.Record rest h c more e f = stop_start styles.Record rest h c more e f

plain_byte : (style : Style) (s rest : List ℕ) → (s ≢ []) → ArePlain style s → (c : ℕ) (more : List ℕ) → s ++ rest ≡ c ∷ more → c ≡ 34 → ⊥
plain_byte style [] rest full h c more e f = full refl
plain_byte style (d ∷ ds) rest full h c more e f = no_quote style d h.0 (head_is d c (ds ++ rest) more e ∙ f)

pub item_again : (style : Style) (x : Option (List ℕ)) (a rest : List ℕ) → SpellsItem style x a → IsStop style rest → item_at style (a ++ rest) ≡ Some (item x rest)
unfolding item_at
item_again style None a rest h stop = rw h (plain_start style (null_text style ++ rest) (item None rest) (null_start style rest stop) (plain_null_again style rest stop))
item_again style (Some s) a rest h stop = elim h.1 [
  | inl q ↦ rw q.2 (ap (λ (u : List ℕ). quoted_text_at style u) (append_assoc q.0 (34 ∷ []) rest) ∙ quoted_text_again style s q.0 rest h.0 q.1 stop)
  | inr p ↦ rw p.0 (plain_start style (s ++ rest) (item (Some s) rest) (plain_byte style s rest p.1 p.3) (plain_text_again style s rest h.0 p.1 p.2 p.3 stop))
]

-- ---- lists of items

abbrev List' : Type 0
List' = List (Option (List ℕ))

none_list : (ys : List') → None ≡ Some ys → ⊥
none_list ys e = cc

abbrev TakesAfter : Style → List ℕ → Option (List ℕ) → Type 0
TakesAfter style rest None = rest ≡ closing style ∷ []
TakesAfter style rest (Some more) = rest ≡ 44 ∷ more

abbrev End : Type 0
End = Option (List ℕ)

abbrev no_more : End
no_more = None

abbrev more_of : List ℕ → End
more_of rest = Some rest

after_takes : (style : Style) (rest : List ℕ) (b : End) → after_item style rest ≡ Some b → TakesAfter style rest b
unfolding after_item
after_takes style [] b e = absurd (none_end b e)
  where
    none_end : (b : End) → None ≡ Some b → ⊥
    none_end b e = cc
after_takes style (c ∷ rest) b e =
    elim (chosen (eqb c 44) (Some (more_of rest)) (cond (eqb c (closing style) && eqb (length rest) 0) (Some no_more) None) (Some b) e) [
      | inl p ↦ subst (TakesAfter style (c ∷ rest)) (same_Some (more_of rest) b p.1) (ap (λ (n : ℕ). n ∷ rest) (eqb-true c 44 p.0))
      | inr p ↦
          let g = cond_some (eqb c (closing style) && eqb (length rest) 0) no_more b p.1 in
          let t = both_true (eqb c (closing style)) (eqb (length rest) 0) g.0 in
          subst (TakesAfter style (c ∷ rest)) g.1 (rw (eqb-true c (closing style) t.0, nil_from_length rest (eqb-true _ _ t.1)) refl)
    ]

abbrev TakesItems : Style → List ℕ → List' → Type 0
TakesItems style bytes xs = (a : List ℕ) × SpellsItems style xs a × (bytes ≡ a ++ closing style ∷ [])

joins_items : (style : Style) (bytes more : List ℕ) (x : Item) (ys : List') → TakesItem style bytes x → x.1 ≡ 44 ∷ more → TakesItems style more ys → TakesItems style bytes (x.0 ∷ ys)
joins_items style bytes more x [] t f r = absurd r.1
joins_items style bytes more x (y ∷ ys) t f r =
    (t.0 ++ 44 ∷ r.0, (t.0, r.0, t.1, r.1, refl), t.2 ∙ ap (λ (u : List ℕ). t.0 ++ u) (f ∙ ap (λ (u : List ℕ). 44 ∷ u) r.2) ∙ sym (append_assoc t.0 (44 ∷ r.0) (closing style ∷ [])))

takes_by_after : (style : Style) (n : ℕ) (bytes : List ℕ) (x : Item) (xs : List') → TakesItem style bytes x → (b : Option End) → after_item style x.1 ≡ b → more_items x.0 b (items_in style n) ≡ Some xs
    → ((rest : List ℕ) (ys : List') → items_in style n rest ≡ Some ys → TakesItems style rest ys) → TakesItems style bytes xs
takes_by_after style n bytes x xs t None f e h = absurd (none_list xs e)
takes_by_after style n bytes x xs t (Some None) f e h =
    subst (TakesItems style bytes) (same_Some (x.0 ∷ []) xs e) (t.0, t.1, t.2 ∙ ap (λ (u : List ℕ). t.0 ++ u) (after_takes style x.1 None f))
takes_by_after style n bytes x xs t (Some (Some more)) f e h =
    let b = bind_some (items_in style n more) (λ items. Some (x.0 ∷ items)) xs e in
    subst (TakesItems style bytes) (same_Some (x.0 ∷ b.0) xs b.2) (joins_items style bytes more x b.0 t (after_takes style x.1 (Some more) f) (h more b.0 b.1))

pub items_take : (style : Style) (n : ℕ) (bytes : List ℕ) (xs : List') → items_in style n bytes ≡ Some xs → TakesItems style bytes xs
unfolding items_in
items_take style zero bytes xs e = absurd (none_list xs e)
items_take style (suc n) bytes xs e =
    let i = bind_some (item_at style bytes) (λ x. more_items x.0 (after_item style x.1) (items_in style n)) xs e in
    takes_by_after style n bytes i.0 xs (item_takes style bytes i.0 i.1) (after_item style i.0.1) refl i.2 (λ rest ys h. items_take style n rest ys h)

stop_close : (style : Style) → IsStop style (closing style ∷ [])
stop_close styles.Array = (λ e. absurd (omega (arith, e)), refl)
stop_close styles.Record = (λ e. absurd (omega (arith, e)), refl)

stop_comma : (style : Style) (rest : List ℕ) → IsStop style (44 ∷ rest)
stop_comma styles.Array rest = (λ e. absurd (omega (arith, e)), refl)
stop_comma styles.Record rest = (λ e. absurd (omega (arith, e)), refl)

close_after : (style : Style) → after_item style (closing style ∷ []) ≡ Some no_more
unfolding after_item
close_after styles.Array = refl
close_after styles.Record = refl

comma_after : (style : Style) (rest : List ℕ) → after_item style (44 ∷ rest) ≡ Some (more_of rest)
unfolding after_item
comma_after style rest = refl

pub items_again : (style : Style) (xs : List') (a : List ℕ) (n : ℕ) → SpellsItems style xs a → length (a ++ closing style ∷ []) ≤ n → items_in style n (a ++ closing style ∷ []) ≡ Some xs
unfolding items_in
items_again style [] a n h le = absurd h
items_again style (e ∷ es) a zero h le = absurd (omega (arith, le, length-append a (closing style ∷ [])))
items_again style (e ∷ []) a (suc n) h le = rw (item_again style e a (closing style ∷ []) h (stop_close style), close_after style) refl
items_again style (e ∷ f ∷ es) a (suc n) h le =
    let x : List ℕ = h.0 in
    let y : List ℕ = h.1 in
    let made : a ++ closing style ∷ [] ≡ x ++ 44 ∷ (y ++ closing style ∷ []) = ap (λ (u : List ℕ). u ++ closing style ∷ []) h.4 ∙ append_assoc x (44 ∷ y) (closing style ∷ []) in
    let small : length (y ++ closing style ∷ []) ≤ n =
    omega (arith, le, ap length h.4, length-append a (closing style ∷ []), length-append x (44 ∷ y), length-append y (closing style ∷ [])) in
    rw (made, item_again style e x (44 ∷ (y ++ closing style ∷ [])) h.2 (stop_comma style (y ++ closing style ∷ [])), comma_after style (y ++ closing style ∷ []), items_again style (f ∷ es) y n h.3 small) refl

pub no_items : (style : Style) (bytes : List ℕ) (xs : List') → None ≡ items_in style (length bytes + 1) bytes → SpellsRest style bytes xs → ⊥
no_items style bytes xs e r = none_list xs (e ∙ ap (items_in style (length bytes + 1)) r.2 ∙ items_again style xs r.0 (length bytes + 1) r.1 (omega (arith, ap length r.2)))

tail_is : (c d : ℕ) (xs ys : List ℕ) → c ∷ xs ≡ d ∷ ys → xs ≡ ys
tail_is c d xs ys e = cc

pub array_rest : (text rest : List ℕ) (xs : List') → text ≡ 123 ∷ rest → (text ≡ 123 ∷ 125 ∷ [] → ⊥) → ArrayTextOf text xs → SpellsRest styles.Array rest xs
array_rest text rest [] e empty r = absurd (empty r)
array_rest text rest (x ∷ xs) e empty r = (r.0, r.1, tail_is 123 123 rest (r.0 ++ 125 ∷ []) (sym e ∙ r.2))

pub rest_array : (text rest : List ℕ) (xs : List') → text ≡ 123 ∷ rest → SpellsRest styles.Array rest xs → ArrayTextOf text xs
rest_array text rest [] e r = absurd r.1
rest_array text rest (x ∷ xs) e r = (r.0, r.1, e ∙ ap (λ (u : List ℕ). 123 ∷ u) r.2)

pub no_array : (text : List ℕ) (xs : List') → (text ≡ 123 ∷ 125 ∷ [] → ⊥) → ((rest : List ℕ) → text ≡ 123 ∷ rest → ⊥) → ArrayTextOf text xs → ⊥
no_array text [] empty other r = empty r
no_array text (x ∷ xs) empty other r = other (r.0 ++ 125 ∷ []) r.2

pub record_rest : (text rest : List ℕ) (xs : List') → text ≡ 40 ∷ rest → RecordTextOf text xs → SpellsRest styles.Record rest xs
record_rest text rest xs e r = (r.0, r.1, tail_is 40 40 rest (r.0 ++ 41 ∷ []) (sym e ∙ r.2))

pub rest_record : (text rest : List ℕ) (xs : List') → text ≡ 40 ∷ rest → SpellsRest styles.Record rest xs → RecordTextOf text xs
rest_record text rest xs e r = (r.0, r.1, e ∙ ap (λ (u : List ℕ). 40 ∷ u) r.2)

pub not_braces : (bytes text : List ℕ) (b : Bool) → bytes ≡ text → b ≡ bytes_eq bytes (123 ∷ 125 ∷ []) → b ≡ false → text ≡ 123 ∷ 125 ∷ [] → ⊥
not_braces bytes text b e f g z = false_true b g (f ∙ is_same bytes (123 ∷ 125 ∷ []) (e ∙ z))

-- a text is that of one array alone
pub items_unique : (style : Style) (bytes : List ℕ) (xs ys : List') → SpellsRest style bytes xs → SpellsRest style bytes ys → xs ≡ ys
items_unique style bytes xs ys r t =
    let one = ap (items_in style (length bytes + 1)) r.2 ∙ items_again style xs r.0 (length bytes + 1) r.1 (omega (arith, ap length r.2)) in
    let two = ap (items_in style (length bytes + 1)) t.2 ∙ items_again style ys t.0 (length bytes + 1) t.1 (omega (arith, ap length t.2)) in
    same_Some xs ys (sym one ∙ two)

brace_alone : items_in styles.Array 2 (125 ∷ []) ≡ None
unfolding items_in item_at plain_at
brace_alone = refl

lone_brace : (text : List ℕ) (x : Option (List ℕ)) (xs : List') → text ≡ 123 ∷ 125 ∷ [] → ArrayTextOf text (x ∷ xs) → ⊥
lone_brace text x xs e r =
    let rest : r.0 ++ 125 ∷ [] ≡ 125 ∷ [] = tail_is 123 123 (r.0 ++ 125 ∷ []) (125 ∷ []) (sym r.2 ∙ e) in
    let all = items_again styles.Array (x ∷ xs) r.0 2 r.1 (omega (arith, ap length rest)) in
    none_list (x ∷ xs) (sym brace_alone ∙ ap (items_in styles.Array 2) (sym rest) ∙ all)

pub array_unique : (text : List ℕ) (xs ys : List') → ArrayTextOf text xs → ArrayTextOf text ys → xs ≡ ys
array_unique text [] [] r t = refl
array_unique text [] (y ∷ ys) r t = absurd (lone_brace text y ys r t)
array_unique text (x ∷ xs) [] r t = absurd (lone_brace text x xs t r)
array_unique text (x ∷ xs) (y ∷ ys) r t =
    items_unique styles.Array (r.0 ++ 125 ∷ []) (x ∷ xs) (y ∷ ys) (r.0, r.1, refl) (t.0, t.1, tail_is 123 123 (r.0 ++ 125 ∷ []) (t.0 ++ 125 ∷ []) (sym r.2 ∙ t.2))
