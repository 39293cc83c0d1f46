-- The fold is the repeated digest.
use Rattle.std.proofs.Common.{◌≡◌, ℕ, ◌-◌, fold, take, sym, refl, ◌∙◌, ap, ap₂, rules, arith}
use Rattle.std.proofs.iter.Yields.{nat_range_steps, Range-gives}
use Rattle.std.proofs.lemmas.Fn.{fold_over}
use Rattle.std.proofs.lemmas.List.Sums.{fold_push}
use Rattle.std.specs.List.{range_with_len}
use Rattle.byte_strings.specs.Bytes.{Bytes}
use Rattle.md5_digest.specs.Md5.{md5}
use Rattle.keys.specs.declared.size.KeySize.{KeySize}
use Rattle.keys.specs.Key.{key_of}
use Rattle.keys.specs.File.{again}
use Rattle.keys.proofs.Turns.{fold_is_again}
use Rattle.keys.proofs.file.digested_again.Goals as goal

pub returns : goal.returns
returns c =
    let size = c.args.first.size in
    let first = c.args.first.bytes in
    let all : c.args.turns - 0 ≡ c.args.turns = omega arith in
    let folded : (c.fold.result.bytes ≡ fold (λ x i. md5 (take c.args.first.size.n x)) c.args.first.bytes (range_with_len 0 (c.args.turns - 0))) × (c.fold.result.size ≡ c.args.first.size) =
    fold_over nat_range_steps (λ i. i) _ (λ is key. (key.bytes ≡ fold (λ x i. md5 (take size.n x)) first is) × (key.size ≡ size)) _
    (λ is key i key' f' before k.
    let bytes : key'.bytes ≡ md5 (key_of key) = search rules in
    let same : key'.size ≡ key.size = search rules in
    ((bytes ∙ ap₂ (λ (s : KeySize) (x : Bytes). md5 (take s.n x)) before.1 before.0 ∙ sym (fold_push (λ x i. md5 (take size.n x)) first is i), same ∙ before.1), search rules))
    (record { start = 0; end = c.args.turns }) (range_with_len 0 (c.args.turns - 0)) _ _ (Range-gives (record { start = 0; end = c.args.turns })) (refl, refl) c.fold.ensures.ran in
    record {
      bytes = folded.0 ∙ fold_is_again size.n (c.args.turns - 0) first ∙ ap (λ (k : ℕ). again size.n k first) all;
      size = folded.1;
    }
