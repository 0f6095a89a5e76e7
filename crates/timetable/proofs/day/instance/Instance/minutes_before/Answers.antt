-- The minutes of one station more.
use Rattle.std.proofs.Common.{◌≡◌, ◌+◌, ℕ, List, length, sym, ap, ◌∙◌, arith}
use Rattle.timetable.specs.Lists.{sum_below}
use Rattle.timetable.specs.Minutes.{minutes_of}
use Rattle.timetable.proofs.Sums.{sum_next}
use Rattle.timetable.proofs.day.instance.Instance.minutes_before.Goals as goal

pub loop-earlier-preserved : goal.loop-earlier-preserved
loop-earlier-preserved c =
    let before : c.loop-earlier.minutes ≡ sum_below (λ s. length (minutes_of c.args.self.now s)) c.loop-earlier.earlier = c.loop-earlier.invariant.0 in
    let here : length c.minutes.result.now ≡ length (minutes_of c.args.self.now c.loop-earlier.earlier) = ap (λ (minutes : List ℕ). length minutes) c.minutes.ensures.value in
    let sum : c.loop-earlier.minutes + length c.minutes.result.now ≡ sum_below (λ s. length (minutes_of c.args.self.now s)) (c.loop-earlier.earlier + 1) =
    ap (λ (n : ℕ). n + length c.minutes.result.now) before ∙ ap (λ (n : ℕ). sum_below (λ s. length (minutes_of c.args.self.now s)) c.loop-earlier.earlier + n) here
    ∙ sym (sum_next (λ s. length (minutes_of c.args.self.now s)) c.loop-earlier.earlier) in
    (sum, omega (arith, sum, c.minutes.ensures.together (c.loop-earlier.earlier + 1)))
