-- The search for a bad entry, against the rule over the table's pairs.
use Rattle.std.proofs.Common.{◌≡◌, ℕ, suc, ◌+◌, ◌≤◌, Bool, true, false, cond, leb, List, [], ◌∷◌, length, take, Some, None, Option, sym, refl, ap, ◌∙◌, subst, arith}
use Rattle.std.proofs.lemmas.Bool.{leb-true, le-leb, and_parts, and_from, both_ways}
use Rattle.filters.specs.declared.table.FilterEntry.{FilterEntry}
use Rattle.filters.specs.Table.{Table, end_of, in_order, first_bad, bad_entry}
use Rattle.filters.specs.Laws.{Exactly, pairs, Ordered, Sound, Fault}

-- what the test of an entry decides
pub record Kept (size before : ℕ) (e : FilterEntry) : Type 0 where
  pub name_starts : before ≤ e.name.offset
  pub name_ends : end_of e.name ≤ size
  pub method_starts : end_of e.name ≤ e.method.offset
  pub method_ends : end_of e.method ≤ size

kept : (size before : ℕ) (e : FilterEntry) → in_order size before e ≡ true → Kept size before e
kept size before e h =
    let a = and_parts (leb before e.name.offset) _ h in
    let b = and_parts (leb (end_of e.name) size) _ a.1 in
    let c = and_parts (leb (end_of e.name) e.method.offset) _ b.1 in
    record { name_starts = leb-true _ _ a.0; name_ends = leb-true _ _ b.0; method_starts = leb-true _ _ c.0; method_ends = leb-true _ _ c.1 }

keeps : (size before : ℕ) (e : FilterEntry) → Kept size before e → in_order size before e ≡ true
keeps size before e k =
    and_from _ _ (le-leb _ _ k.name_starts) (and_from _ _ (le-leb _ _ k.name_ends) (and_from _ _ (le-leb _ _ k.method_starts) (le-leb _ _ k.method_ends)))

-- an entry's test, and what its outcome says of the search
went_on : (b : Bool) (i : ℕ) (o : Option ℕ) → cond b o (Some i) ≡ None → (b ≡ true) × (o ≡ None)
went_on true i o h = (refl, h)
went_on false i o h = cc

ordered : (size i before : ℕ) (es : List FilterEntry) → first_bad size i before es ≡ None → Ordered size before (pairs es)
ordered size i before [] h = tt
ordered size i before (e ∷ es) h =
    let w = went_on (in_order size before e) i _ h in
    let k = kept size before e w.0 in
    (k.name_starts, k.name_ends, (k.method_starts, k.method_ends, ordered size (i + 1) (end_of e.method) es w.1))

clean : (size i before : ℕ) (es : List FilterEntry) → Ordered size before (pairs es) → first_bad size i before es ≡ None
clean size i before [] h = refl
clean size i before (e ∷ es) (a, b, (c, d, rest)) =
    let k = keeps size before e (record { name_starts = a; name_ends = b; method_starts = c; method_ends = d }) in
    ap (λ t. cond t (first_bad size (i + 1) (end_of e.method) es) (Some i)) k ∙ clean size (i + 1) (end_of e.method) es rest

pub sound : (t : Table) → Exactly (bad_entry t ≡ None) (Sound t t.entries)
sound t = record { to = ordered (length t.block) 0 0 t.entries; from = clean (length t.block) 0 0 t.entries }

-- a search counted from i that ends at k has passed j entries, and stopped at the next
pub record Stopped (size i before k : ℕ) (es : List FilterEntry) : Type 0 where
  pub j : ℕ
  pub place : k ≡ i + j
  pub passed : Ordered size before (pairs (take j es))
  pub broken : Ordered size before (pairs (take (suc j) es)) → ⊥

-- by the outcome of the first entry's test, and by what is known of the entries behind it
stopped_by : (size i before k : ℕ) (e : FilterEntry) (es : List FilterEntry) (b : Bool) → in_order size before e ≡ b → cond b (first_bad size (i + 1) (end_of e.method) es) (Some i) ≡ Some k → (first_bad size (i + 1) (end_of e.method) es ≡ Some k → Stopped size (i + 1) (end_of e.method) k es) → Stopped size i before k (e ∷ es)
stopped_by size i before k e es true b-is h behind =
    let s = behind h in
    let w = kept size before e b-is in
    record { j = suc s.j; place = (let p = s.place in omega arith); passed = (w.name_starts, w.name_ends, (w.method_starts, w.method_ends, s.passed)); broken = λ o. s.broken o.2.2 }
stopped_by size i before k e es false b-is h behind =
    let same : i ≡ k = cc in
    record { j = 0; place = omega arith; passed = tt; broken = λ o. both_ways _ b-is (keeps size before e (record { name_starts = o.0; name_ends = o.1; method_starts = o.2.0; method_ends = o.2.1 })) }

stopped : (size i before k : ℕ) (es : List FilterEntry) → first_bad size i before es ≡ Some k → Stopped size i before k es
stopped size i before k [] h = cc
stopped size i before k (e ∷ es) h = stopped_by size i before k e es (in_order size before e) refl h (stopped size (i + 1) (end_of e.method) k es)

pub fault : (t : Table) (i : ℕ) → bad_entry t ≡ Some i → Fault t i
fault t i h =
    let s = stopped (length t.block) 0 0 i t.entries h in
    let p : s.j ≡ i = (let q = s.place in omega arith) in
    let m : suc s.j ≡ i + 1 = omega arith in
    record { before = subst (λ n. Sound t (take n t.entries)) p s.passed; broken = λ o. s.broken (subst (λ n. Sound t (take n t.entries)) (sym m) o) }
