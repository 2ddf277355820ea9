use Rattle.std.proofs.Common.{◌≡◌, List, Some, None, ap, rules}
use Rattle.std.specs.Prelude.{position}
use Rattle.pg_rule.specs.declared.cache.Entry.{Entry}
use Rattle.pg_rule.specs.Caches.{has_number}
use Rattle.pg_rule.proofs.CacheLaws.{moved, unmoved}
use Rattle.pg_rule.proofs.cache.Cache.touch.Goals as goal

pub returns-in-Some : goal.returns-in-Some
returns-in-Some c =
    let place : position (has_number c.args.number) c.self.inside.entries.items ≡ Some c.in-Some.place = search (rules, c.place_of.ensures, c.in-Some.is, c.deref.ensures.value) in
    rw (← c.self.view_is) (ap (λ (es : List Entry). record { entries = es; held = c.self.inside.held })
    (moved (has_number c.args.number) c.in-Some.place c.self.inside.entries.items c.remove-entry.new.self.items c.put_first.new.entries.items c.remove-entry.result place c.remove-entry.ensures.value c.remove-entry.ensures.items c.put_first.ensures.items))

pub returns-in_default : goal.returns-in_default
returns-in_default c =
    let place : position (has_number c.args.number) c.self.inside.entries.items ≡ None = search (rules, c.place_of.ensures, c.in_default.is, c.deref.ensures.value) in
    rw (← c.self.view_is) (ap (λ (es : List Entry). record { entries = es; held = c.self.inside.held }) (unmoved (has_number c.args.number) c.self.inside.entries.items place))
