use Rattle.std.proofs.Common.{◌≡◌, ◌∙◌, Some, ap, inl, refl}
use Rattle.pg_listening.proofs.DialLaws.{dial_apart, fills_none, link_fails}
use Rattle.pg_listening.proofs.dialling.fill.Goals as goal

pub give_back-requires : goal.give_back-requires
give_back-requires g c = record { mine = c.requires.mine; theirs = c.requires.theirs }

pub establish-requires : goal.establish-requires
establish-requires g c = record { mine = c.requires.mine; uncalled = c.in-Ok.ensures.uncalled }

pub give_back-requires-in-Err-establish : goal.give_back-requires-in-Err-establish
give_back-requires-in-Err-establish g c = record { mine = ap (λ t. t.name) c.in-Err-establish.ensures.err.0 ∙ c.requires.mine; theirs = c.requires.theirs }

pub returns-in-Err : goal.returns-in-Err
returns-in-Err g c = record {
  found = tt;
  faults = tt;
  «open» = dial_apart c.in-Err.failed _ c.into_error.ensures;
  none = inl (link_fails _ _ c.in-Err.failed _ c.into_error.ensures c.in-Err.ensures.counts);
  seat = c.give_back.ensures.seat;
}

pub returns-in-Ok-establish : goal.returns-in-Ok-establish
returns-in-Ok-establish g c = record {
  found = c.in-Ok-establish.ensures.ok;
  faults = c.in-Ok-establish.ensures.faults ∙ ap (λ d. d.faults) c.in-Ok.ensures.counts;
  «open» = tt;
  none = tt;
  seat = refl;
}

pub returns-in-Err-establish : goal.returns-in-Err-establish
returns-in-Err-establish g c =
    let told = c.in-Err-establish.ensures in
    record {
      found = tt;
      faults = tt;
      «open» = told.err.2;
      none = fills_none g.L.Link.seen _ _ _ _ c.in-Err-establish.e c.in-Ok.link c.in-Err-establish.link _ (ap (λ d. d.faults) c.in-Ok.ensures.counts) told.err.1 refl told.refuses;
      seat = c.give_back-in-Err-establish.ensures.seat;
    }
