-- Calls on two runs as one list.
use Rattle.std.proofs.Common.{◌≡◌, ℕ, cond, eqb, sym, refl, ap, ◌∙◌}
use Rattle.std.proofs.lemmas.Bool.{ne_eqb}
use Rattle.byte_strings.specs.Bytes.{Bytes}
use Rattle.methods.specs.Method.{Scheme}
use Rattle.reader.specs.Run.{Standing, Fed, Shut}
use Rattle.promises.specs.Calls.{Goes, StartedBefore}
use Rattle.promises.specs.Promises.{Each, RunsAgree}
use Rattle.usage.specs.declared.turns.Turns.{Turns}
use Rattle.usage.specs.Turns.{calls, Followed, Turned}

-- runs 0 and 1, and some other at every further number
abbrev pub family : Standing → Standing → Standing → ℕ → Standing
family a b d i = cond (eqb i 0) a (cond (eqb i 1) b d)

first_only : (a a' b d : Standing) (j : ℕ) → (j ≡ 0 → ⊥) → family a' b d j ≡ family a b d j
first_only a a' b d j other =
    let e = ne_eqb j 0 other in
    ap (λ t. cond t a' (cond (eqb j 1) b d)) e ∙ sym (ap (λ t. cond t a (cond (eqb j 1) b d)) e)

second_only : (a b b' d : Standing) (j : ℕ) → (j ≡ 1 → ⊥) → family a b' d j ≡ family a b d j
second_only a b b' d j other =
    let e = ne_eqb j 1 other in
    ap (λ s. cond (eqb j 0) a s) (ap (λ t. cond t b' d) e ∙ sym (ap (λ t. cond t b d) e))

module _ (a a' a'' b b' b'' : Standing) (p q w w' x x' y y' z z' : Bytes) (t : Turns)
    (fed : Fed a p w t.first_fed a' w') (also : Fed b q x t.second_fed b' x')
    (shut : Shut a' y t.first_closed a'' y') (both : Shut b' z t.second_closed b'' z') where
  goes : Goes (family a b a) (calls t p q w w' x x' y y' z z') (family a'' b'' a)
  goes = (
    family a' b a,
    (
      fed,
      first_only a a' b a,
      (
        family a' b' a,
        (
          also,
          second_only a' b b' a,
          (
            family a'' b' a,
            (
              shut,
              first_only a' a'' b' a,
              (family a'' b'' a, (both, second_only a'' b' b'' a, λ i. refl)),
            ),
          ),
        ),
      ),
    ),
  )

  -- neither run is started again
  on : (i : ℕ) → StartedBefore i (calls t p q w w' x x' y y' z z')
  on i = (λ _. tt, (λ _. tt, (λ _. tt, (λ _. tt, tt))))

  pub turned : {M : Type 0} (scheme : M → Scheme) → Each scheme RunsAgree → Turned scheme a b (calls t p q w w' x x' y y' z z')
  unfolding Followed
  turned scheme agree = record {
    first = λ f target o begun. agree.by_tag target f o (family a b a) (family a'' b'' a) (calls t p q w w' x x' y y' z z') goes 0 (on 0) begun;
    second = λ f m o begun. agree.by_method m f o (family a b a) (family a'' b'' a) (calls t p q w w' x x' y y' z z') goes 1 (on 1) begun;
  }
