use Rattle.std.proofs.Common.{◌≡◌, ℕ, ◌+◌, ◌≤◌, length, take, refl, sym, ap, ◌∙◌, subst, rules, arith}
use Rattle.rail_io.specs.Folders.{IsReadFrom, file_at}
use Rattle.rail_io.proofs.Reading.{IsReading-more}
use Rattle.rail_io.proofs.whole.read_into.Goals as goal

pub loop-count-init : goal.loop-count-init
loop-count-init g c =
    let none : length c.args.bytes.now.items ≡ 0 = ap length c.requires.empty in
    record {
      front = λ files tells. c.requires.empty ∙ sym (ap (λ (n : ℕ). take n (file_at files c.args.path.now)) none);
      within = omega (arith, none);
      only_reads = record { same = refl; steady = refl; counting = refl; lasting = omega arith; growing = omega arith };
      no_fault = λ counts. refl;
      at_most = omega arith;
      exact = λ low. omega (arith, none);
    }

pub loop-count-preserved : goal.loop-count-preserved
loop-count-preserved g c =
    let from_end : c.len.result ≡ length c.loop-count.bytes.items = search rules in
    let within : length c.loop-count.bytes.items + c.in_ok-count.count ≤ c.args.limit = omega arith in
    let told = λ (files : _) (tells : _).
    subst (λ (from : ℕ). IsReadFrom (file_at files c.args.path.now) from c.in_ok-count.count c.read_at.new.into) from_end (c.in_ok-count.ensures.told files tells) in
    rw c.in_ok-extend_from_slice.ensures.items
    (IsReading-more _ _ _ _ _ _ _ _ c.loop-count.invariant told c.in_ok-count.ensures.room within c.in_ok-count.ensures.taken c.read_at.ensures.only_reads c.in_ok-count.ensures.fault_counted)
