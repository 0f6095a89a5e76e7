use Rattle.std.proofs.Common.{◌≡◌, ◌∙◌, ◌++◌, List, [], ◌∷◌, Bor, ℕ, rules}
use Rattle.plain_words.proofs.Copying.{copied_more}
use Rattle.plain_words.proofs.reading.words_after.Goals as goal

pub loop-next-preserved : goal.loop-next-preserved
loop-next-preserved c =
    let before : List (Bor (List ℕ)) = c.loop-next.rest.items in
    let pushed : c.push.new.self.items ≡ before ++ c.at.result ∷ [] = search rules in
    copied_more c.args.words.now c.loop-next.next c.at.result before c.push.new.self.items c.at.ensures pushed
    ∙ c.loop-next.invariant
