-- One point more: there is room for it, since there is for those of all blocks.
use Rattle.std.proofs.Common.{◌≡◌, ◌+◌, ◌*◌, ◌<◌, ◌≤◌, ℕ, List, [], ◌∷◌, ◌++◌, length, take, ◌∙◌, arith}
use Rattle.std.proofs.lemmas.List.{length-take, length-append}
use Rattle.std.proofs.Math.Nat.{mul-le-mul_left, mul-add}
use Rattle.skew.specs.Few.{held}
use Rattle.skew_checks.proofs.course.Goals as goal

pub loop-j-preserved : goal.loop-j-preserved
loop-j-preserved g c =
    let width = c.width-j-end.ensures in
    rw c.push.ensures
    (grown (held c.loop-j.points) _ _ c.args.plan.blocks c.loop-i._i c.loop-j.j c.requires (omega (arith, c.loop-i-test.true)) (omega (arith, width, c.loop-j-test.true)) c.loop-j.invariant)
  where
    grown : {A : Type 0} (xs : List A) (x : A) (w b i j : ℕ) → w * b ≤ 24 → i < b → j < w → length xs ≡ w * i + j → length (take 24 (xs ++ x ∷ [])) ≡ w * i + (j + 1)
    grown xs x w b i j h ib jw e =
        let next : i + 1 ≤ b = omega (arith, ib) in
        let rows = mul-le-mul_left w next in
        let row = mul-add w i 1 in
        let more = length-append xs (x ∷ []) in
        length-take 24 (xs ++ x ∷ []) ∙ omega (arith, more, h, rows, row, jw, e)
