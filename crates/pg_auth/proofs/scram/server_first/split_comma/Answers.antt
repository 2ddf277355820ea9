use Rattle.std.proofs.Common.{◌++◌, take, sym, ◌∙◌, ap}
use Rattle.std.proofs.lemmas.List.{take_rest, append-nil}
use Rattle.pg_auth.proofs.CommaLemmas.{before_at_comma, behind_at_comma, before_at_other, behind_at_other, before_at_end, behind_at_end}
use Rattle.pg_auth.proofs.scram.server_first.split_comma.Goals as goal

pub returns-then-bytes-place-eq44-clause-before : goal.returns-then-bytes-place-eq44-clause-before
returns-then-bytes-place-eq44-clause-before c =
    sym (append-nil (take c.loop-place.place c.args.bytes.now))
    ∙ ap (λ (rest : _). take c.loop-place.place c.args.bytes.now ++ rest) (sym (before_at_comma c.args.bytes.now c.loop-place.place c.loop-place-test.true c.if-bytes-place-eq44.true))
    ∙ c.loop-place.invariant.before

pub returns-then-bytes-place-eq44-clause-behind : goal.returns-then-bytes-place-eq44-clause-behind
returns-then-bytes-place-eq44-clause-behind c =
    rw take_rest (sym (behind_at_comma c.args.bytes.now c.loop-place.place c.loop-place-test.true c.if-bytes-place-eq44.true) ∙ c.loop-place.invariant.behind)

pub loop-place-preserved : goal.loop-place-preserved
loop-place-preserved c = record {
  before = before_at_other c.args.bytes.now c.loop-place.place c.loop-place-test.true c.if-bytes-place-eq44.false ∙ c.loop-place.invariant.before;
  behind = behind_at_other c.args.bytes.now c.loop-place.place c.loop-place-test.true c.if-bytes-place-eq44.false ∙ c.loop-place.invariant.behind;
}

pub returns-clause-before : goal.returns-clause-before
returns-clause-before c = sym (before_at_end c.args.bytes.now c.loop-place.place c.loop-place-test.false) ∙ c.loop-place.invariant.before

pub returns-clause-behind : goal.returns-clause-behind
returns-clause-behind c = sym (behind_at_end c.args.bytes.now c.loop-place.place c.loop-place-test.false) ∙ c.loop-place.invariant.behind
