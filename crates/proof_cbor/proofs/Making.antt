-- The item of a value, and that it may be written.
use Rattle.std.proofs.Common.{◌≡◌, ℕ, suc, ◌+◌, ◌≤◌, ◌<◌, Bool, true, false, List, [], ◌∷◌, ◌++◌, length, get_or, take, map, refl, sym, ap, subst, ◌∙◌, add-one, arith, eqb, Result, Ok, Err}
use Rattle.std.specs.Prelude.{◌&&◌, IfOk}
use Rattle.std.specs.List.{list_all}
use Rattle.std.proofs.Math.Seq.{take-suc}
use Rattle.std.proofs.lemmas.List.Folds.{list_all_more}
use Rattle.std.proofs.lemmas.Bool.{eq-eqb, and_parts}
use Rattle.std.proofs.lemmas.List.{map-append, take_all}
use Rattle.cbor_core.specs.declared.item.Item.{Item}
use Rattle.cbor_core.specs.declared.item.Item.TheVariants as v
use Rattle.cbor_core.specs.declared.item.Pair.{Pair}
use Rattle.cbor_core.specs.Writing.{largest_over, item_nesting, count_of, keys_rise, encoding_of, fits}
use Rattle.base_types.specs.Order.{rise}
use Rattle.cbor_core.proofs.Lawful.{nesting-List, nesting-Map, rise-List, rise-Map, count-List, count-Blob, of-List, is_spelled}
use Rattle.cbor_core.proofs.Writes.{fits-Blob, fits-List}
use Rattle.cbor_core.specs.Grammar.{Encodes}
use Rattle.base_types.specs.declared.memory.Memory.{Memory}
use Rattle.cbor_core.proofs.Sorted.{kept, nesting-Whole, rise-Whole, nesting-Blob, rise-Blob, nesting-Text, rise-Text}
use Rattle.proof_cbor.specs.declared.fault.ValueFault.{ValueFault}
use Rattle.proof_cbor.specs.declared.value.BaseValue.{BaseValue}
use Rattle.proof_cbor.specs.declared.value.DerivedValue.{DerivedValue}
use Rattle.proof_cbor.specs.declared.value.MapEntry.{MapEntry}
use Rattle.proof_cbor.specs.Values.{all_sized, digests_sized, pair_of, base_item, derived_item, base_proof_bytes, derived_proof_bytes, multibase_text, with_signature, CanWriteBase, SpellsBase, SpellsDerived}
use Rattle.proof_cbor.specs.Internal.Writing.{CanWriteDerived}
use Rattle.base64.specs.GeneralPurpose.{IsBytes}

-- past the last item, what was made is the image of the whole list
pub making_end : {X Y : Type 0} (f : X → Y) (xs : List X) (i : ℕ) (done : List Y) → length xs ≤ i → done ≡ map f (take i xs) → done ≡ map f xs
making_end f xs i done le is = is ∙ ap (map f) (take_all i xs le)

-- with the image of the next item behind it, what was made is the image of one item more
pub making_more : {X Y : Type 0} (f : X → Y) (xs : List X) (i : ℕ) (x : X) (done : List Y) → i < length xs → x ≡ get_or xs i x → done ≡ map f (take i xs) → done ++ f x ∷ [] ≡ map f (take (i + 1) xs)
making_more f xs i x done lt is so_far =
    let one : take (i + 1) xs ≡ take i xs ++ x ∷ [] = rw add-one (take-suc xs i x lt ∙ ap (λ z. take i xs ++ z ∷ []) (sym is)) in
    let two : map f (take (i + 1) xs) ≡ map f (take i xs) ++ f x ∷ [] = ap (map f) one ∙ map-append f (take i xs) (x ∷ []) in
    ap (λ z. z ++ f x ∷ []) so_far ∙ sym two

pub ruleset making_steps = (making_end, making_more)

-- ---- each so many bytes long

-- where the next byte string has the size too, all up to it have the size
pub sized_more : (n : ℕ) (cs : List (List ℕ)) (i : ℕ) (c : List ℕ) → i < length cs → c ≡ get_or cs i c → length c ≡ n → all_sized n (take i cs) ≡ true → all_sized n (take (i + 1) cs) ≡ true
sized_more n cs i c lt is size so_far = list_all_more (λ (x : List ℕ). eqb (length x) n) cs i c lt ∙ rw (so_far, ← is) (eq-eqb (length c) n size)

-- past the last byte string, all of the list have the size
pub sized_end : (n : ℕ) (cs : List (List ℕ)) (i : ℕ) → length cs ≤ i → all_sized n (take i cs) ≡ true → all_sized n cs ≡ true
sized_end n cs i le so_far = ap (all_sized n) (sym (take_all i cs le)) ∙ so_far

abbrev pub pair_at : ℕ → Item → Pair Item
pair_at key value = record { key = key; value = value }

-- with the pair of the next label behind it, one label more is made
pub labels_more : (es : List MapEntry) (i : ℕ) (e : MapEntry) (done new : List (Pair Item)) (value : Item) → i < length es → e ≡ get_or es i e → value ≡ v.Blob e.digest → new ≡ done ++ pair_at e.number value ∷ []
    → done ≡ map pair_of (take i es) → new ≡ map pair_of (take (i + 1) es)
labels_more es i e done new value lt is made pushed so_far =
    pushed ∙ ap (λ (x : Item). done ++ pair_at e.number x ∷ []) made ∙ making_more pair_of es i e done lt is so_far

-- ---- what may be written

module _ {Y : Type 0} (con : Y → Item) where
  each_rise : ((y : Y) → keys_rise (con y) ≡ true) → (ys : List Y) → list_all keys_rise (map con ys) ≡ true
  each_rise h [] = refl
  each_rise h (y ∷ ys) = rw (h y) (each_rise h ys)

  each_nest : ((y : Y) → item_nesting (con y) ≡ 0) → (ys : List Y) → largest_over item_nesting (map con ys) ≡ 0
  each_nest h [] = refl
  each_nest h (y ∷ ys) = let first = h y in let rest = each_nest h ys in omega arith

  list_rises : ((y : Y) → keys_rise (con y) ≡ true) → (ys : List Y) → keys_rise (v.List (map con ys)) ≡ true
  list_rises h ys = rise-List (map con ys) ∙ each_rise h ys

  list_nests : ((y : Y) → item_nesting (con y) ≡ 0) → (ys : List Y) → item_nesting (v.List (map con ys)) ≡ 1
  list_nests h ys = nesting-List (map con ys) ∙ ap suc (each_nest h ys)

abbrev number_of : MapEntry → ℕ
number_of e = e.number

keys_are : (es : List MapEntry) → map (λ (p : Pair Item). p.key) (map pair_of es) ≡ map number_of es
keys_are [] = refl
keys_are (e ∷ es) = ap (λ (z : List ℕ). e.number ∷ z) (keys_are es)

values_rise : (es : List MapEntry) → list_all (λ (p : Pair Item). keys_rise p.value) (map pair_of es) ≡ true
values_rise [] = refl
values_rise (e ∷ es) = rw (rise-Blob e.digest) (values_rise es)

values_nest : (es : List MapEntry) → largest_over (λ (p : Pair Item). item_nesting p.value) (map pair_of es) ≡ 0
values_nest [] = refl
values_nest (e ∷ es) = let first = nesting-Blob e.digest in let rest = values_nest es in omega arith

labels_rise : (es : List MapEntry) → rise (map number_of es) ≡ true → keys_rise (v.Map (map pair_of es)) ≡ true
labels_rise es r = rise-Map (map pair_of es) ∙ rw (keys_are es, r, values_rise es) refl

labels_nest : (es : List MapEntry) → item_nesting (v.Map (map pair_of es)) ≡ 1
labels_nest es = nesting-Map (map pair_of es) ∙ ap suc (values_nest es)

module _ (a b c d e : Item) where
  five_rise : keys_rise a ≡ true → keys_rise b ≡ true → keys_rise c ≡ true → keys_rise d ≡ true → keys_rise e ≡ true → keys_rise (v.List (a ∷ b ∷ c ∷ d ∷ e ∷ [])) ≡ true
  five_rise ra rb rc rd re = rise-List (a ∷ b ∷ c ∷ d ∷ e ∷ []) ∙ rw (ra, rb, rc, rd, re) refl

  five_nest : item_nesting a ≤ 1 → item_nesting b ≤ 1 → item_nesting c ≤ 1 → item_nesting d ≤ 1 → item_nesting e ≤ 1 → item_nesting (v.List (a ∷ b ∷ c ∷ d ∷ e ∷ [])) ≤ 4
  five_nest na nb nc nd ne = let n = nesting-List (a ∷ b ∷ c ∷ d ∷ e ∷ []) in omega arith

-- the keys of each map in the item of a base value rise
pub base_rises : (value : BaseValue) (item : Item) → item ≡ base_item value → keys_rise item ≡ true
unfolding base_item
base_rises value item is = ap keys_rise is ∙ five_rise _ _ _ _ _ (rise-Blob value.signature) (rise-Blob value.key) (rise-Blob value.secret) (list_rises v.Blob rise-Blob value.signatures) (list_rises v.Text rise-Text value.pointers)

-- the item of a base value nests at most 4 deep
pub base_nests : (value : BaseValue) (item : Item) → item ≡ base_item value → item_nesting item ≤ 4
unfolding base_item
base_nests value item is =
    let n1 = nesting-Blob value.signature in
    let n2 = nesting-Blob value.key in
    let n3 = nesting-Blob value.secret in
    let n4 = list_nests v.Blob nesting-Blob value.signatures in
    let n5 = list_nests v.Text nesting-Text value.pointers in
    subst (λ (i : Item). item_nesting i ≤ 4) (sym is) (five_nest (v.Blob value.signature) (v.Blob value.key) (v.Blob value.secret) (v.List (map v.Blob value.signatures)) (v.List (map v.Text value.pointers)) (omega (arith, n1)) (omega (arith, n2)) (omega (arith, n3)) (omega (arith, n4)) (omega (arith, n5)))

-- the keys of each map in the item of a derived value rise, if the numbers of its labels do
pub derived_rises : (value : DerivedValue) (item : Item) → rise (map number_of value.labels) ≡ true → item ≡ derived_item value → keys_rise item ≡ true
unfolding derived_item
derived_rises value item r is = ap keys_rise is ∙ five_rise _ _ _ _ _ (rise-Blob value.signature) (rise-Blob value.key) (list_rises v.Blob rise-Blob value.signatures) (labels_rise value.labels r) (list_rises v.Whole rise-Whole value.indexes)

-- the item of a derived value nests at most 4 deep
pub derived_nests : (value : DerivedValue) (item : Item) → item ≡ derived_item value → item_nesting item ≤ 4
unfolding derived_item
derived_nests value item is =
    let n1 = nesting-Blob value.signature in
    let n2 = nesting-Blob value.key in
    let n3 = list_nests v.Blob nesting-Blob value.signatures in
    let n4 = labels_nest value.labels in
    let n5 = list_nests v.Whole nesting-Whole value.indexes in
    subst (λ (i : Item). item_nesting i ≤ 4) (sym is) (five_nest (v.Blob value.signature) (v.Blob value.key) (v.List (map v.Blob value.signatures)) (v.Map (map pair_of value.labels)) (v.List (map v.Whole value.indexes)) (omega (arith, n1)) (omega (arith, n2)) (omega (arith, n3)) (omega (arith, n4)) (omega (arith, n5)))

pub ruleset may_steps = (base_rises, base_nests, derived_rises, derived_nests)

-- ---- the text of a value

base_encodes : (value : BaseValue) → CanWriteBase value → Encodes 4 (base_item value) (count_of (base_item value)) (encoding_of (base_item value))
base_encodes value can = is_spelled (base_item value) (encoding_of (base_item value)) [] refl refl can.1 (base_rises value (base_item value) refl) (base_nests value (base_item value) refl)

derived_encodes : (value : DerivedValue) → CanWriteDerived value → rise (map number_of value.labels) ≡ true → Encodes 4 (derived_item value) (count_of (derived_item value)) (encoding_of (derived_item value))
derived_encodes value can r = is_spelled (derived_item value) (encoding_of (derived_item value)) [] refl refl can.1 (derived_rises value (derived_item value) r refl) (derived_nests value (derived_item value) refl)

-- the multibase text of the bytes of a base value that may be written spells the value
pub base_is_text : (value : BaseValue) (bytes text : List ℕ) → CanWriteBase value → count_of (base_item value) ≤ 100000 → IsBytes bytes → bytes ≡ base_proof_bytes value → text ≡ multibase_text bytes → SpellsBase value text
base_is_text value bytes text can le small is t =
    record { sizes = can.0; spelled = (count_of (base_item value), encoding_of (base_item value), le, base_encodes value can, (subst IsBytes is small, t ∙ ap multibase_text is)) }

-- the text of the bytes of a derived value that may be written and whose numbers rise spells it
pub derived_is_text : (value : DerivedValue) (bytes text : List ℕ) → CanWriteDerived value → rise (map number_of value.labels) ≡ true → rise value.indexes ≡ true → count_of (derived_item value) ≤ 100000 → IsBytes bytes → bytes ≡ derived_proof_bytes value → text ≡ multibase_text bytes → SpellsDerived value text
derived_is_text value bytes text can l r le small is t =
    record { sizes = can.0; rising = r; spelled = (count_of (derived_item value), encoding_of (derived_item value), le, derived_encodes value can l, (subst IsBytes is small, t ∙ ap multibase_text is)) }

-- where a call answers the multibase text of the bytes of a base value, that spells the value
pub base_text : (value : BaseValue) (bytes seen : List ℕ) (result : Result (List ℕ) Memory) → CanWriteBase value → count_of (base_item value) ≤ 100000 → IsBytes seen → seen ≡ bytes → bytes ≡ base_proof_bytes value → IfOk result (λ text. text ≡ multibase_text seen) → IfOk result (λ (text : List ℕ). SpellsBase value text)
base_text value bytes seen (Ok text) can le small same is t = base_is_text value seen text can le small (same ∙ is) t
base_text value bytes seen (Err e) can le small same is t = tt

-- where a call answers the text of the bytes of a derived value whose numbers rise, that spells it
pub derived_text : (value : DerivedValue) (bytes seen : List ℕ) (result : Result (List ℕ) Memory) → CanWriteDerived value → rise (map number_of value.labels) ≡ true → rise value.indexes ≡ true → count_of (derived_item value) ≤ 100000 → IsBytes seen → seen ≡ bytes → bytes ≡ derived_proof_bytes value → IfOk result (λ text. text ≡ multibase_text seen) → IfOk result (λ (text : List ℕ). SpellsDerived value text)
derived_text value bytes seen (Ok text) can l r le small same is t = derived_is_text value seen text can l r le small (same ∙ is) t
derived_text value bytes seen (Err e) can l r le small same is t = tt

-- ---- the value with another signature

-- it may be written as the value may
pub can_sign : (value : BaseValue) (signature : List ℕ) → CanWriteBase value → length signature ≡ 64 → CanWriteBase (with_signature value signature)
unfolding base_item
can_sign value signature can long =
    let rest = v.Blob value.key ∷ v.Blob value.secret ∷ v.List (map v.Blob value.signatures) ∷ v.List (map v.Text value.pointers) ∷ [] in
    let old = of-List (v.Blob value.signature ∷ rest) can.1 in
    let others = and_parts (fits (v.Blob value.signature)) (list_all fits rest) old.1 in
    let first : fits (v.Blob signature) ≡ true = fits-Blob signature (omega (arith, long)) in
    let all : (fits (v.Blob signature) && list_all fits rest) ≡ true = rw first others.1 in (
      record { signature = long; key = can.0.key; secret = can.0.secret; signatures = can.0.signatures },
      fits-List (v.Blob signature ∷ rest) old.0 all,
    )

-- and it has as many items
pub same_count : (value : BaseValue) (signature : List ℕ) → count_of (base_item (with_signature value signature)) ≡ count_of (base_item value)
unfolding base_item
same_count value signature =
    let rest = v.Blob value.key ∷ v.Blob value.secret ∷ v.List (map v.Blob value.signatures) ∷ v.List (map v.Text value.pointers) ∷ [] in
    let new = count-List (v.Blob signature ∷ rest) in
    let old = count-List (v.Blob value.signature ∷ rest) in
    omega (arith, new, old, count-Blob signature, count-Blob value.signature)

-- ---- what was read may be written

-- a base value that was read has at most 100,000 items
pub base_count : (text : List ℕ) (result : Result BaseValue ValueFault) → IfOk result (λ (value : BaseValue). SpellsBase value text) → IfOk result (λ (value : BaseValue). count_of (base_item value) ≤ 100000)
base_count text (Ok value) s = let k = kept 4 (base_item value) s.spelled.0 s.spelled.1 s.spelled.3 in omega (arith, k.counted, s.spelled.2)
base_count text (Err e) s = tt

-- a derived value that was read has at most 100,000 items
pub derived_count : (text : List ℕ) (result : Result DerivedValue ValueFault) → IfOk result (λ (value : DerivedValue). SpellsDerived value text) → IfOk result (λ (value : DerivedValue). count_of (derived_item value) ≤ 100000)
derived_count text (Ok value) s = let k = kept 4 (derived_item value) s.spelled.0 s.spelled.1 s.spelled.3 in omega (arith, k.counted, s.spelled.2)
derived_count text (Err e) s = tt

-- the digests of a derived value that was read have the length of its hash
pub derived_digests : (text : List ℕ) (result : Result DerivedValue ValueFault) → IfOk result (λ (value : DerivedValue). SpellsDerived value text) → IfOk result (λ (value : DerivedValue). digests_sized value.hash value.labels ≡ true)
derived_digests text (Ok value) s = s.sizes.digests
derived_digests text (Err e) s = tt

-- the indexes of a derived value that was read rise
pub derived_indexes : (text : List ℕ) (result : Result DerivedValue ValueFault) → IfOk result (λ (value : DerivedValue). SpellsDerived value text) → IfOk result (λ (value : DerivedValue). rise value.indexes ≡ true)
derived_indexes text (Ok value) s = s.rising
derived_indexes text (Err e) s = tt

all_fourth : (a b c d e : Bool) → (a && (b && (c && (d && (e && true))))) ≡ true → d ≡ true
all_fourth false b c d e h = absurd cc
all_fourth true false c d e h = absurd cc
all_fourth true true false d e h = absurd cc
all_fourth true true true false e h = absurd cc
all_fourth true true true true e h = refl

fourth_rises : (a b c d e : Item) → keys_rise (v.List (a ∷ b ∷ c ∷ d ∷ e ∷ [])) ≡ true → keys_rise d ≡ true
fourth_rises a b c d e h = all_fourth (keys_rise a) (keys_rise b) (keys_rise c) (keys_rise d) (keys_rise e) (sym (rise-List (a ∷ b ∷ c ∷ d ∷ e ∷ [])) ∙ h)

labels_rose : (es : List MapEntry) → keys_rise (v.Map (map pair_of es)) ≡ true → rise (map number_of es) ≡ true
labels_rose es h =
    let p = and_parts (rise (map (λ (p : Pair Item). p.key) (map pair_of es))) (list_all (λ (p : Pair Item). keys_rise p.value) (map pair_of es)) (sym (rise-Map (map pair_of es)) ∙ h) in
    ap rise (sym (keys_are es)) ∙ p.0

value_rose : (value : DerivedValue) → keys_rise (derived_item value) ≡ true → rise (map number_of value.labels) ≡ true
unfolding derived_item
value_rose value h = labels_rose value.labels (fourth_rises (v.Blob value.signature) (v.Blob value.key) (v.List (map v.Blob value.signatures)) (v.Map (map pair_of value.labels)) (v.List (map v.Whole value.indexes)) h)

-- the numbers of the labels of a derived value that was read rise
pub derived_labels : (text : List ℕ) (result : Result DerivedValue ValueFault) → IfOk result (λ (value : DerivedValue). SpellsDerived value text) → IfOk result (λ (value : DerivedValue). rise (map number_of value.labels) ≡ true)
derived_labels text (Ok value) s = value_rose value (kept 4 (derived_item value) s.spelled.0 s.spelled.1 s.spelled.3).keys
derived_labels text (Err e) s = tt
