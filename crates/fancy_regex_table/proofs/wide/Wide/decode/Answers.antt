use Rattle.std.proofs.Common.{◌≡◌, ◌∙◌, ◌+◌, ◌*◌, ◌%◌, ◌<◌, ◌≤◌, ℕ, List, length, get_or, ap, sym, arith}
use Rattle.fancy_regex_table.specs.Wides.{class_in}
use Rattle.fancy_regex_table.proofs.DecodeLemmas.{wide_here, decode_two, decode_three, decode_four}
use Rattle.fancy_regex_table.proofs.wide.Wide.decode.Goals as goal
use Rattle.fancy_regex_table.proofs.wide.Wide.decode.Goals.{After-as_bytes-bytes}

abbrev byte_at : After-as_bytes-bytes → ℕ → ℕ
byte_at c i = get_or c.as_bytes-bytes.result.now i 0

abbrev text_at : After-as_bytes-bytes → ℕ → ℕ
text_at c i = get_or c.args.text.now i 0

same_byte : (c : After-as_bytes-bytes) (i : ℕ) → byte_at c i ≡ text_at c i
same_byte c i = ap (λ (t : List ℕ). get_or t i 0) c.as_bytes-bytes.ensures.value

same_long : (c : After-as_bytes-bytes) → length c.as_bytes-bytes.result.now ≡ length c.args.text.now
same_long c = ap length c.as_bytes-bytes.ensures.value

pub bounds-bytes-at-then-first-lt224 : goal.bounds-bytes-at-then-first-lt224
bounds-bytes-at-then-first-lt224 c =
    let b = (goal.at.bounds-bytes-at-then-first-lt224 c).After-as_bytes-bytes in
    let w = wide_here c.args.text.now c.args.at c.utf8.text c.requires in
    let first : text_at b c.args.at < 224 = omega (arith, same_byte b c.args.at, c.if-first-lt224.true) in
    let two = decode_two c.args.unicode c.args.matchers.now c.args.self.now c.args.text.now c.args.at w.0 w.2 w.1 first in
    omega (arith, two.0, same_long b)

pub returns-then-first-lt224 : goal.returns-then-first-lt224
returns-then-first-lt224 c =
    let b = (goal.at.returns-then-first-lt224 c).After-as_bytes-bytes in
    let w = wide_here c.args.text.now c.args.at c.utf8.text c.requires in
    let first : text_at b c.args.at < 224 = omega (arith, same_byte b c.args.at, c.if-first-lt224.true) in
    let two = decode_two c.args.unicode c.args.matchers.now c.args.self.now c.args.text.now c.args.at w.0 w.2 w.1 first in
    record {
      c = w.0;
      low = w.2;
      here = w.1;
      next = ap (λ (n : ℕ). c.args.at + n) (sym two.1);
      class = c.class_in.ensures
          ∙ ap (λ (t : List ℕ). class_in c.args.self.now (get_or t c.args.at 0 % 32) (get_or t (c.args.at + 1) 0 % 64)) c.as_bytes-bytes.ensures.value
          ∙ sym two.2;
    }

pub bounds-bytes-at-then-first-lt240 : goal.bounds-bytes-at-then-first-lt240
bounds-bytes-at-then-first-lt240 c =
    let b = (goal.at.bounds-bytes-at-then-first-lt240 c).After-as_bytes-bytes in
    let w = wide_here c.args.text.now c.args.at c.utf8.text c.requires in
    let low : 224 ≤ text_at b c.args.at = omega (arith, same_byte b c.args.at, c.if-first-lt224.false) in
    let high : text_at b c.args.at < 240 = omega (arith, same_byte b c.args.at, c.if-first-lt240.true) in
    let three = decode_three c.args.unicode c.args.matchers.now c.args.self.now c.args.text.now c.args.at w.0 w.2 w.1 low high in
    omega (arith, three.0, same_long b)

pub bounds-bytes-at-then-first-lt240-2 : goal.bounds-bytes-at-then-first-lt240-2
bounds-bytes-at-then-first-lt240-2 c =
    let b = (goal.at.bounds-bytes-at-then-first-lt240-2 c).After-as_bytes-bytes in
    let w = wide_here c.args.text.now c.args.at c.utf8.text c.requires in
    let low : 224 ≤ text_at b c.args.at = omega (arith, same_byte b c.args.at, c.if-first-lt224.false) in
    let high : text_at b c.args.at < 240 = omega (arith, same_byte b c.args.at, c.if-first-lt240.true) in
    let three = decode_three c.args.unicode c.args.matchers.now c.args.self.now c.args.text.now c.args.at w.0 w.2 w.1 low high in
    omega (arith, three.0, same_long b)

pub returns-then-first-lt240 : goal.returns-then-first-lt240
returns-then-first-lt240 c =
    let b = (goal.at.returns-then-first-lt240 c).After-as_bytes-bytes in
    let w = wide_here c.args.text.now c.args.at c.utf8.text c.requires in
    let low : 224 ≤ text_at b c.args.at = omega (arith, same_byte b c.args.at, c.if-first-lt224.false) in
    let high : text_at b c.args.at < 240 = omega (arith, same_byte b c.args.at, c.if-first-lt240.true) in
    let three = decode_three c.args.unicode c.args.matchers.now c.args.self.now c.args.text.now c.args.at w.0 w.2 w.1 low high in
    record {
      c = w.0;
      low = w.2;
      here = w.1;
      next = ap (λ (n : ℕ). c.args.at + n) (sym three.1);
      class = c.class_in-then-first-lt240.ensures
          ∙ ap (λ (t : List ℕ). class_in c.args.self.now (get_or t c.args.at 0 % 16 * 64 + get_or t (c.args.at + 1) 0 % 64) (get_or t (c.args.at + 2) 0 % 64)) c.as_bytes-bytes.ensures.value
          ∙ sym three.2;
    }

pub returns : goal.returns
returns c =
    let b = (goal.at.returns c).After-as_bytes-bytes in
    let w = wide_here c.args.text.now c.args.at c.utf8.text c.requires in
    let low : 240 ≤ text_at b c.args.at = omega (arith, same_byte b c.args.at, c.if-first-lt240.false) in
    let four = decode_four c.args.unicode c.args.matchers.now c.args.self.now c.args.text.now c.args.at w.0 w.2 w.1 low in
    record {
      c = w.0;
      low = w.2;
      here = w.1;
      next = ap (λ (n : ℕ). c.args.at + n) (sym four.1);
      class = c.class_after.ensures w.0 w.1;
    }
