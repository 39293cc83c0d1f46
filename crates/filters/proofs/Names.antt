-- The last entry of a name.
use Rattle.std.proofs.Common.{◌≡◌, Bool, true, false, cond, List, [], ◌∷◌, ◌++◌, reverse, Some, None, Option, sym, refl, ap, ◌∙◌, ⊎_elim}
use mathlib.Core.List.{reverse-cons}
use Rattle.std.specs.List.{find}
use Rattle.std.specs.Option.{option_or}
use Rattle.std.proofs.lemmas.List.Folds.{find-append}
use Rattle.std.proofs.lemmas.Slice.Eq.{bytes_eq-Decides}
use Rattle.std.proofs.lemmas.Bool.{cases_Bool, both_ways}
use Rattle.byte_strings.specs.Bytes.{Bytes}
use Rattle.filters.specs.declared.table.FilterEntry.{FilterEntry}
use Rattle.filters.specs.Table.{part_of, bears, last_named}
use Rattle.filters.specs.Laws.{Exactly, Unlisted, Last}

-- an entry's own part of the search
own_none : (b : Bool) (e : FilterEntry) → cond b (Some e) None ≡ None → b ≡ false
own_none true e h = cc
own_none false e h = refl

or-none : (o p : Option FilterEntry) → option_or o p ≡ None → (o ≡ None) × (p ≡ None)
or-none (Some x) p h = cc
or-none None p h = (refl, h)

is_named : (block name : Bytes) (e : FilterEntry) → bears block name e ≡ true → part_of block e.name ≡ name
is_named block name e = (bytes_eq-Decides (part_of block e.name) name).0

not_named : (block name : Bytes) (e : FilterEntry) → (part_of block e.name ≡ name → ⊥) → bears block name e ≡ false
not_named block name e other = ⊎_elim (λ t. absurd (other (is_named block name e t))) (λ f. f) (cases_Bool (bears block name e))

none_listed : (block name : Bytes) (es : List FilterEntry) → last_named block name es ≡ None → Unlisted block name es
none_listed block name [] h = tt
none_listed block name (e ∷ es) h =
    let o = or-none (last_named block name es) (cond (bears block name e) (Some e) None) h in
    (λ same. both_ways _ (own_none (bears block name e) e o.1) ((bytes_eq-Decides (part_of block e.name) name).1 same), none_listed block name es o.0)

none_found : (block name : Bytes) (es : List FilterEntry) → Unlisted block name es → last_named block name es ≡ None
none_found block name [] h = refl
none_found block name (e ∷ es) (other, rest) =
    ap (λ o. option_or o (cond (bears block name e) (Some e) None)) (none_found block name es rest) ∙ ap (λ b. cond b (Some e) None) (not_named block name e other)

pub unlisted : (block name : Bytes) (es : List FilterEntry) → Exactly (last_named block name es ≡ None) (Unlisted block name es)
unlisted block name es = record { to = none_listed block name es; from = none_found block name es }

-- the entry found is the last, by what is known of the entries behind the first
is_last_by : (block name : Bytes) (x : FilterEntry) (es : List FilterEntry) (e : FilterEntry) (o : Option FilterEntry) (b : Bool) → last_named block name es ≡ o → bears block name x ≡ b → option_or o (cond b (Some x) None) ≡ Some e → (last_named block name es ≡ Some e → Last block name es e) → Last block name (x ∷ es) e
is_last_by block name x es e (Some y) b o_is b-is h behind =
    let l = behind (o_is ∙ h) in
    record { front = x ∷ l.front; rest = l.rest; parts = ap (λ r. x ∷ r) l.parts; named = l.named; none_behind = l.none_behind }
is_last_by block name x es e None true o_is b-is h behind =
    let same : x ≡ e = cc in
    record { front = []; rest = es; parts = ap (λ y. y ∷ es) same; named = ap (λ y. part_of block y.name) (sym same) ∙ is_named block name x b-is; none_behind = none_listed block name es o_is }
is_last_by block name x es e None false o_is b-is h behind = cc

is_last : (block name : Bytes) (es : List FilterEntry) (e : FilterEntry) → last_named block name es ≡ Some e → Last block name es e
is_last block name [] e h = cc
is_last block name (x ∷ es) e h = is_last_by block name x es e (last_named block name es) (bears block name x) refl refl h (is_last block name es e)

last_found : (block name : Bytes) (front rest : List FilterEntry) (e : FilterEntry) → part_of block e.name ≡ name → Unlisted block name rest → last_named block name (front ++ (e ∷ rest)) ≡ Some e
last_found block name [] rest e named none =
    ap (λ o. option_or o (cond (bears block name e) (Some e) None)) (none_found block name rest none)
    ∙ ap (λ b. cond b (Some e) None) ((bytes_eq-Decides (part_of block e.name) name).1 named)
last_found block name (x ∷ front) rest e named none =
    ap (λ o. option_or o (cond (bears block name x) (Some x) None)) (last_found block name front rest e named none)

pub last : (block name : Bytes) (es : List FilterEntry) (e : FilterEntry) → Exactly (last_named block name es ≡ Some e) (Last block name es e)
last block name es e = record {
  to = is_last block name es e;
  from = λ l. ap (last_named block name) l.parts ∙ last_found block name l.front l.rest e l.named l.none_behind;
}

-- the search from the end
pub found_back : (block name : Bytes) (es : List FilterEntry) → find (bears block name) (reverse es) ≡ last_named block name es
found_back block name [] = refl
found_back block name (e ∷ es) =
    let p = bears block name in
    ap (find p) (reverse-cons e es) ∙ find-append p (reverse es) (e ∷ [])
    ∙ ap (λ o. option_or o (cond (p e) (Some e) None)) (found_back block name es)
