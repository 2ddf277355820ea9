use Rattle.std.proofs.Common.{◌≡◌, ◌++◌, ℕ, List, [], refl, sym, ap, ◌∙◌, append-nil, append_assoc}
use Rattle.std.specs.Char.{encode_utf8}
use Rattle.pg_migrate.specs.Quoting.{doubled}
use Rattle.pg_migrate.proofs.QuoteLaws.{doubled-append, doubled-nil}
use Rattle.pg_migrate.proofs.quoting.put_all_doubled.Goals as goal

pub loop-ch-init : goal.loop-ch-init
loop-ch-init c = ([], cc, rw (doubled-nil, append-nil) refl)

-- one more character
onto : (mark : ℕ) (old new front now ch : List ℕ) → now ≡ old ++ doubled mark front → new ≡ now ++ doubled mark ch → new ≡ old ++ doubled mark (front ++ ch)
onto mark old new front now ch e f = f ∙ ap (λ t. t ++ doubled mark ch) e ∙ append_assoc old (doubled mark front) (doubled mark ch) ∙ ap (λ t. old ++ t) (sym (doubled-append mark front ch))

pub loop-ch-preserved : goal.loop-ch-preserved
loop-ch-preserved c = (
  c.loop-ch.invariant.0 ++ encode_utf8 c.in-Some.ch,
  c.loop-ch.invariant.1 ∙ ap (λ t. c.loop-ch.invariant.0 ++ t) c.in-Some.ensures.steps.0 ∙ sym (append_assoc c.loop-ch.invariant.0 _ _),
  onto _ _ _ c.loop-ch.invariant.0 _ _ c.loop-ch.invariant.2 c.in_ok-put_doubled.ensures,
)
