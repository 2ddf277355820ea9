use Rattle.std.proofs.Common.{◌≡◌, map, drop}
use Rattle.pg_options.specs.UrlKeys.{key_named}
use Rattle.pg_options.proofs.url_key.key_among.Given as goal

abbrev pub invariant-loop-name : goal.invariant-loop-name
invariant-loop-name l =
    key_named l.text (map (λ (name, key). (name.now, key)) (drop l.name-index l.keys))
    ≡ key_named l.text (map (λ (name, key). (name.now, key)) l.keys)
