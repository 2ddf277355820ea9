use Rattle.std.proofs.Common.{refl, ◌∙◌, sym, ap, arith, List, ℕ}
use Rattle.pg_script.specs.Lexing.{at, lexed}
use Rattle.pg_script.specs.Lexing.{Mode as modes}
use Rattle.pg_script.proofs.LexerSteps.{character_takes, character_fails, character_shorter, text_ends, after_shorter}
use Rattle.pg_script.proofs.lexer.read_text.Goals as goal

pub loop-behind-init : goal.loop-behind-init
loop-behind-init c = record {
  room = c.in_ok-reserve.ensures.ok;
  short = omega arith;
  read = λ ts. rw (c.in_ok-reserve.ensures.items, c.clear.ensures.items) refl;
}

pub returns-in-Some : goal.returns-in-Some
returns-in-Some c =
    let e = sym c.in-Some.ensures in
    let less = after_shorter 34 c.loop-behind.rest.now c.in-Some.behind.now e in
    record {
      shorter = omega (arith, less, c.loop-behind.invariant.short);
      read = λ ts. c.loop-behind.invariant.read ts ∙ text_ends ts c.loop-behind.value.items c.loop-behind.rest.now c.in-Some.behind.now e;
    }

pub returns-in_default-character : goal.returns-in_default-character
returns-in_default-character c = λ ts. c.loop-behind.invariant.read ts ∙ character_fails ts c.loop-behind.value.items c.loop-behind.rest.now (sym c.in_default.ensures) (sym c.in_default-character.ensures)

pub push_reserved-requires : goal.push_reserved-requires
push_reserved-requires c =
    let less = character_shorter c.loop-behind.rest.now (c.in-Some-character.byte, c.in-Some-character.behind.now) (sym c.in-Some-character.ensures) in
    omega (arith, less, c.loop-behind.invariant.room)

pub loop-behind-smaller : goal.loop-behind-smaller
loop-behind-smaller c = character_shorter c.loop-behind.rest.now (c.in-Some-character.byte, c.in-Some-character.behind.now) (sym c.in-Some-character.ensures)

pub loop-behind-preserved : goal.loop-behind-preserved
loop-behind-preserved c =
    let e = sym c.in-Some-character.ensures in
    let less = character_shorter c.loop-behind.rest.now (c.in-Some-character.byte, c.in-Some-character.behind.now) e in
    record {
      room = omega (arith, less, c.loop-behind.invariant.room, c.push_reserved.ensures.len, c.push_reserved.ensures.capacity);
      short = omega (arith, less, c.loop-behind.invariant.short);
      read = λ ts. c.loop-behind.invariant.read ts ∙ character_takes ts c.loop-behind.value.items c.loop-behind.rest.now (c.in-Some-character.byte, c.in-Some-character.behind.now) (sym c.in_default.ensures) e
          ∙ ap (λ (held : List ℕ). lexed (at ts held modes.Text) c.in-Some-character.behind.now) (sym c.push_reserved.ensures.items);
    }
