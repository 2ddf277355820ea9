use Rattle.std.proofs.Common.{◌≡◌, ◌++◌, ℕ, List, [], refl, sym, ap, ◌∙◌, append-nil, append_assoc}
use Rattle.std.specs.Char.{encode_utf8}
use Rattle.pg_options.specs.Escaping.{escaped}
use Rattle.pg_options.proofs.EscapingLaws.{escaped-append, escaped-nil}
use Rattle.pg_options.proofs.escaping.PgOptionsWriteEscaped.write_str.Goals as goal

pub loop-ch-init : goal.loop-ch-init
loop-ch-init c = ([], cc, rw (escaped-nil, append-nil) refl)

-- one more character
onto : (old new front now : List ℕ) (ch : List ℕ) → now ≡ old ++ escaped front → new ≡ now ++ escaped ch → new ≡ old ++ escaped (front ++ ch)
onto old new front now ch e f = f ∙ ap (λ t. t ++ escaped ch) e ∙ append_assoc old (escaped front) (escaped ch) ∙ ap (λ t. old ++ t) (sym (escaped-append front ch))

pub loop-ch-preserved : goal.loop-ch-preserved
loop-ch-preserved c = (
  c.loop-ch.invariant.0 ++ encode_utf8 c.in-Some.ch,
  c.loop-ch.invariant.1 ∙ ap (λ t. c.loop-ch.invariant.0 ++ t) c.in-Some.ensures.steps.0 ∙ sym (append_assoc c.loop-ch.invariant.0 _ _),
  onto _ _ c.loop-ch.invariant.0 _ _ c.loop-ch.invariant.2 c.in_ok-write_char.ensures.ok,
)
