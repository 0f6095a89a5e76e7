-- The counts of the words seen are those of the words taken apart.
use Rattle.std.proofs.Common.{◌≡◌, ◌≤◌, ◌+◌, ℕ, Bool, true, List, [], ◌∷◌, ◌++◌, Option, Some, None, length}
use Rattle.std.proofs.Common.{refl, ap, arith, map, take, ◌<◌, ◌∙◌, slice_index_or, Bor}
use Rattle.std.proofs.lemmas.List.{get_or-map, length-append, length-map}
use Rattle.std.proofs.lemmas.List.Sums.{fold_more}
use Rattle.command_line.specs.declared.form.OptionName.{OptionName}
use Rattle.command_line.specs.declared.form.OptionName.TheVariants.{Nodes, Rounds}
use Rattle.command_line.specs.declared.form.Kind.{Kind}
use Rattle.command_line.specs.declared.form.Kind.TheVariants.{Plain, Name, Whole, Other}
use Rattle.plain_words.specs.Items.{WordList}
use Rattle.command_line.specs.Parts.{Counts, Parts, counts_after, counts_of, kind_of, no_parts, parts_of, stepped}
use Rattle.command_line.specs.Parts.{value_of, with_option, with_value, with_word}

-- each was counted at most so often
pub record AreAtMost (most : ℕ) (counts : Counts) : Type 0 where
  pub positional : counts.positional ≤ most
  pub nodes : counts.nodes ≤ most
  pub rounds : counts.rounds ≤ most

one_longer : (words : WordList) (word : List ℕ) → length (words ++ word ∷ []) ≡ length words + 1
one_longer words word = length-append words (word ∷ [])

counts_value : (name : OptionName) (value : List ℕ) (parts : Parts)
    → counts_of (with_value name value parts) ≡ with_option name (counts_of parts)
counts_value Nodes value parts =
    ap (λ (n : ℕ). record (counts_of parts) { nodes = n }) (one_longer parts.nodes value)
counts_value Rounds value parts =
    ap (λ (n : ℕ). record (counts_of parts) { rounds = n }) (one_longer parts.rounds value)

counts_stepped : (waiting : Option OptionName) (kind : Kind) (word : List ℕ) (parts : Parts)
    → counts_of (stepped waiting kind word parts) ≡ counts_after waiting kind (counts_of parts)
counts_stepped (Some name) Plain word parts = counts_value name word (record parts { waiting = None })
counts_stepped (Some name) (Name other) word parts = refl
counts_stepped (Some name) (Whole other) word parts = refl
counts_stepped (Some name) Other word parts = refl
counts_stepped None Plain word parts =
    ap (λ (n : ℕ). record (counts_of parts) { positional = n }) (one_longer parts.positional word)
counts_stepped None (Name name) word parts = refl
counts_stepped None (Whole name) word parts = counts_value name (value_of name word) parts
counts_stepped None Other word parts = refl

pub counts_word : (parts : Parts) (word : List ℕ)
    → counts_of (with_word parts word) ≡ counts_after parts.waiting (kind_of word) (counts_of parts)
unfolding with_word
counts_word parts word = counts_stepped parts.waiting (kind_of word) word parts

most_option : (n : ℕ) (name : OptionName) (counts : Counts) → AreAtMost n counts
    → AreAtMost (n + 1) (with_option name counts)
most_option n Nodes counts most = record {
  positional = omega (arith, most.positional);
  nodes = omega (arith, most.nodes);
  rounds = omega (arith, most.rounds);
}
most_option n Rounds counts most = record {
  positional = omega (arith, most.positional);
  nodes = omega (arith, most.nodes);
  rounds = omega (arith, most.rounds);
}

-- other flags, and the same counts
more : (n : ℕ) (counts : Counts) (waiting : Option OptionName) (has_others : Bool) → AreAtMost n counts
    → AreAtMost (n + 1) (record counts { waiting = waiting; has_others = has_others })
more n counts waiting has_others most = record {
  positional = omega (arith, most.positional);
  nodes = omega (arith, most.nodes);
  rounds = omega (arith, most.rounds);
}

-- one word counts once
pub most_counted : (n : ℕ) (waiting : Option OptionName) (kind : Kind) (counts : Counts) → AreAtMost n counts
    → AreAtMost (n + 1) (counts_after waiting kind counts)
most_counted n (Some name) Plain counts most =
    most_option n name (record counts { waiting = None })
    (record { positional = most.positional; nodes = most.nodes; rounds = most.rounds })
most_counted n (Some name) (Name other) counts most = more n counts counts.waiting true most
most_counted n (Some name) (Whole other) counts most = more n counts counts.waiting true most
most_counted n (Some name) Other counts most = more n counts counts.waiting true most
most_counted n None Plain counts most = record {
  positional = omega (arith, most.positional);
  nodes = omega (arith, most.nodes);
  rounds = omega (arith, most.rounds);
}
most_counted n None (Name name) counts most = more n counts (Some name) counts.has_others most
most_counted n None (Whole name) counts most = most_option n name counts most
most_counted n None Other counts most = more n counts counts.waiting true most

-- one more word, of those that were passed
pub parts_more : (words : List (Bor (List ℕ))) (i : ℕ) (d : Bor (List ℕ)) → i < length words
    → parts_of (take (i + 1) (map (λ word. word.now) words))
    ≡ with_word (parts_of (take i (map (λ word. word.now) words))) (slice_index_or words i d).now
parts_more words i d lt =
    let texts : WordList = map (λ word. word.now) words in
    let inside : i < length texts = omega (arith, length-map words (λ (word : Bor (List ℕ)). word.now), lt) in
    fold_more with_word no_parts texts i d.now inside
    ∙ ap (λ (word : List ℕ). with_word (parts_of (take i texts)) word)
    (get_or-map (λ (word : Bor (List ℕ)). word.now) words i d d.now lt)
