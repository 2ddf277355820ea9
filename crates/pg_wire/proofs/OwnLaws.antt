-- Behind as many whole responses as groups, the open one begins the response to the next group.
use Rattle.pg_wire.specs.declared.status.TransactionStatus.{TransactionStatus}
use Rattle.std.proofs.Common.{◌≡◌, List, [], ◌∷◌, ◌++◌, length, refl, sym, ap, ◌∙◌, subst, append_assoc, arith, flat_map}
use Rattle.std.specs.List.{AllByRecursion}
use Rattle.std.proofs.lemmas.List.Concat.{flat_map-append}
use Rattle.pg_wire.specs.Frontend.{FrontendMessage}
use Rattle.pg_wire.specs.Backend.{BackendMessage, ReadyForQuery}
use Rattle.pg_wire.specs.Server.{Server, ServerRun, IsPrefixOf}
use Rattle.pg_wire.specs.Groups.{IsUnready, AreUnready, EndsReady, IsBetween, IsGroup}
use Rattle.pg_wire.specs.Pieces.{BeginsResponse}
use Rattle.pg_wire.proofs.RunLaws.{run_split}
use Rattle.pg_wire.proofs.GroupLaws.{group_answers}

-- two lists that agree so far have the same first ReadyForQuery
pub record SameReady (front front' : List BackendMessage) (x y : List BackendMessage) : Type 0 where
  pub fronts : front ≡ front'
  pub rest : IsPrefixOf x y

same_ready : (front front' : List BackendMessage) (s s' : TransactionStatus) (x y : List BackendMessage) → AreUnready front → AreUnready front' → IsPrefixOf (front ++ ReadyForQuery s ∷ x) (front' ++ ReadyForQuery s' ∷ y) → SameReady front front' x y
same_ready [] [] s s' x y u v p = let e = p.1 in record { fronts = refl; rest = (p.0, cc) }
same_ready [] (b ∷ bs) s s' x y u v p =
    let e = p.1 in
    let head : b ≡ ReadyForQuery s = cc in
    absurd (subst IsUnready head v.0)
same_ready (a ∷ as') [] s s' x y u v p =
    let e = p.1 in
    let head : a ≡ ReadyForQuery s' = cc in
    absurd (subst IsUnready head u.0)
same_ready (a ∷ as') (b ∷ bs) s s' x y u v p =
    let e = p.1 in
    let head : a ≡ b = cc in
    let tails : (as' ++ ReadyForQuery s ∷ x) ++ p.0 ≡ bs ++ ReadyForQuery s' ∷ y = cc in
    let further = same_ready as' bs s s' x y u.1 v.1 (p.0, tails) in
    let fronts = further.fronts in
    record { fronts = cc; rest = further.rest }

-- what has no ReadyForQuery ends before the first one
open_front : (open' front : List BackendMessage) (s : TransactionStatus) (y : List BackendMessage) → AreUnready open' → IsPrefixOf open' (front ++ ReadyForQuery s ∷ y) → IsPrefixOf open' (front ++ ReadyForQuery s ∷ [])
open_front [] front s y u p = (front ++ ReadyForQuery s ∷ [], refl)
open_front (a ∷ as') [] s y u p =
    let e = p.1 in
    let head : a ≡ ReadyForQuery s = cc in
    absurd (subst IsUnready head u.0)
open_front (a ∷ as') (b ∷ bs) s y u p =
    let e = p.1 in
    let head : a ≡ b = cc in
    let tails : as' ++ p.0 ≡ bs ++ ReadyForQuery s ∷ y = cc in
    let further = open_front as' bs s y u.1 (p.0, tails) in
    let rest = further.1 in
    (further.0, cc)

-- the replies to a group, and those to what follows
pub split_answers : (front further : List (List BackendMessage)) (rss : List (List BackendMessage)) (r : EndsReady (flat_map (λ rs. rs) front)) → rss ≡ front ++ further → flat_map (λ rs. rs) rss ≡ r.front ++ ReadyForQuery r.status ∷ flat_map (λ rs. rs) further
split_answers front further rss r e =
    ap (flat_map (λ (rs : List BackendMessage). rs)) e ∙ flat_map-append (λ rs. rs) front further
    ∙ ap (λ (w : List BackendMessage). w ++ flat_map (λ rs. rs) further) r.are ∙ append_assoc r.front (ReadyForQuery r.status ∷ []) (flat_map (λ rs. rs) further)

prefix_by : (xs ys zs ws : List BackendMessage) → xs ≡ ys → zs ≡ ws → IsPrefixOf xs zs → IsPrefixOf ys ws
prefix_by xs ys zs ws e f p = (p.0, sym (ap (λ (t : List BackendMessage). t ++ p.0) e) ∙ p.1 ∙ f)

-- a whole response, and the first response of a list that goes on from it
both_ready : (q : List BackendMessage) (r : EndsReady q) (front : List BackendMessage) (status : TransactionStatus) (more part rest all : List BackendMessage) → AreUnready front → all ≡ front ++ ReadyForQuery status ∷ rest
    → IsPrefixOf ((q ++ more) ++ part) all → SameReady r.front front (more ++ part) rest
both_ready q r front status more part rest all u e p =
    let left : (q ++ more) ++ part ≡ r.front ++ ReadyForQuery r.status ∷ (more ++ part) = ap (λ (w : List BackendMessage). (w ++ more) ++ part) r.are ∙ regroup r.front (ReadyForQuery r.status) more part in
    same_ready r.front front r.status status (more ++ part) rest r.unready u (prefix_by ((q ++ more) ++ part) (r.front ++ ReadyForQuery r.status ∷ (more ++ part)) all (front ++ ReadyForQuery status ∷ rest) left e p)
  where
    regroup : (a : List BackendMessage) (z : BackendMessage) (b c : List BackendMessage) → ((a ++ z ∷ []) ++ b) ++ c ≡ a ++ z ∷ (b ++ c)
    regroup a z b c = simp append_assoc

pub own_front : (old after : Server) (gs : List (List FrontendMessage)) (ps : List (List BackendMessage)) (g more : List FrontendMessage) (part : List BackendMessage) (rss : List (List BackendMessage))
    → AllByRecursion IsGroup gs → IsGroup g → IsBetween old → ServerRun old (flat_map (λ x. x) gs ++ (g ++ more)) rss after
    → AllByRecursion EndsReady ps → length ps ≡ length gs → AreUnready part → IsPrefixOf (flat_map (λ p. p) ps ++ part) (flat_map (λ rs. rs) rss) → BeginsResponse g part
own_front old after [] [] g more part rss hs h b run ends len u p =
    let t = run_split old after g more rss run in
    let one = group_answers old t.mid g t.front h b t.begins in
    let e = split_answers t.front t.further rss one.0 t.parts in
    let near = open_front part one.0.front one.0.status (flat_map (λ rs. rs) t.further) u (subst (IsPrefixOf part) e p) in
    record { before = old; after = t.mid; replies = t.front; between = b; run = t.begins; begins = subst (IsPrefixOf part) (sym one.0.are) near }
own_front old after [] (q ∷ ps) g more part rss hs h b run ends len u p = absurd (omega arith)
own_front old after (x ∷ gs) [] g more part rss hs h b run ends len u p = absurd (omega arith)
own_front old after (x ∷ gs) (q ∷ ps) g more part rss hs h b run ends len u p =
    let run' = subst (λ (s : List FrontendMessage). ServerRun old s rss after) (append_assoc x (flat_map (λ y. y) gs) (g ++ more)) run in
    let t = run_split old after x (flat_map (λ y. y) gs ++ (g ++ more)) rss run' in
    let one = group_answers old t.mid x t.front hs.0 b t.begins in
    let e = split_answers t.front t.further rss one.0 t.parts in
    let both = both_ready q ends.0 one.0.front one.0.status (flat_map (λ y. y) ps) part (flat_map (λ rs. rs) t.further) (flat_map (λ rs. rs) rss) one.0.unready e p in
    own_front t.mid after gs ps g more part t.further hs.1 h one.1 t.goes_on ends.1 (omega (arith, len)) u both.rest
