-- What follows an input that is refused: its end is the fault, or nothing that follows mends it.
use Rattle.std.proofs.Common.{◌≡◌, ℕ, zero, suc, ◌+◌, ◌^◌, List, [], ◌∷◌, ◌++◌, length, ap, ◌∙◌, append_assoc, arith, inl, inr}
use Rattle.std.specs.Prelude.{◌⊎◌, Bool}
use Rattle.std.specs.Int.{Width, w8, w16, w32, w64, byte_len, from_be_bytes}
use Rattle.std.proofs.lemmas.List.{length-append, take-append-le}
use Rattle.cbor_core.specs.declared.fault.CborFault.{CborFault}
use Rattle.cbor_core.specs.declared.fault.CborFault.TheVariants as f
use Rattle.cbor_core.specs.declared.item.Item.{Item}
use Rattle.cbor_core.specs.Grammar.{head_of, Encodes}
use Rattle.cbor_core.specs.Refusals.{Rest, IsBehind, IsTruncated, RefusesWidth, RefusesArgument, RefusesHead, is_item, is_key, RefusesFlat, RefusesEach, RefusesEntry, RefusesEntries, RefusesInside, RefusesItem}

abbrev pub longer : Rest → List ℕ → Rest
longer rest more = record { left = rest.left; at = rest.at; bytes = rest.bytes ++ more }

behind_longer : (rest back : Rest) (count : ℕ) (front more : List ℕ) → IsBehind rest count front back → IsBehind (longer rest more) count front (longer back more)
behind_longer rest back count front more b = record { left = b.left; at = b.at; bytes = ap (λ (z : List ℕ). z ++ more) b.bytes ∙ append_assoc front back.bytes more }

same_end : (rest back : Rest) (count : ℕ) (front : List ℕ) (e : CborFault) → IsBehind rest count front back → IsTruncated back e → IsTruncated rest e
same_end rest back count front e b t =
    let long : length rest.bytes ≡ length front + length back.bytes = ap length b.bytes ∙ length-append front back.bytes in
    let end : back.at + length back.bytes ≡ rest.at + length rest.bytes = omega (arith, b.at, long) in
    t ∙ ap (λ (n : ℕ). f.Truncated n) end

-- the end of the rest is the fault, or it stays whatever follows
abbrev pub EndsOrStays : (Rest → CborFault → Type 0) → Rest → CborFault → Type 0
EndsOrStays Refuses rest e = IsTruncated rest e ⊎ ((more : List ℕ) → Refuses (longer rest more) e)

-- ---- a head

width_stays : (w : Width) (least at : ℕ) (bytes : List ℕ) (e : CborFault) → RefusesWidth w least at bytes e → (e ≡ f.Truncated (suc at + length bytes)) ⊎ ((more : List ℕ) → RefusesWidth w least at (bytes ++ more) e)
width_stays w least at bytes e (inl s) = inl s.1
width_stays w least at bytes e (inr s) = inr (λ more.
    let same = ap (from_be_bytes w) (take-append-le (byte_len w) bytes more s.0) in
    inr (omega (arith, s.0, length-append bytes more), omega (arith, same, s.1), s.2))

argument_stays : (code at : ℕ) (bytes : List ℕ) (e : CborFault) → RefusesArgument code at bytes e → (e ≡ f.Truncated (suc at + length bytes)) ⊎ ((more : List ℕ) → RefusesArgument code at (bytes ++ more) e)
argument_stays code at bytes e (inl s) = elim (width_stays w8 24 at bytes e s.1) [
  | inl t ↦ inl t
  | inr t ↦ inr (λ more. inl (s.0, t more))
]
argument_stays code at bytes e (inr (inl s)) = elim (width_stays w16 (2 ^ 8) at bytes e s.1) [
  | inl t ↦ inl t
  | inr t ↦ inr (λ more. inr (inl (s.0, t more)))
]
argument_stays code at bytes e (inr (inr (inl s))) = elim (width_stays w32 (2 ^ 16) at bytes e s.1) [
  | inl t ↦ inl t
  | inr t ↦ inr (λ more. inr (inr (inl (s.0, t more))))
]
argument_stays code at bytes e (inr (inr (inr s))) = elim (width_stays w64 (2 ^ 32) at bytes e s.1) [
  | inl t ↦ inl t
  | inr t ↦ inr (λ more. inr (inr (inr (s.0, t more))))
]

head_stays : (may : ℕ → Bool) (left at : ℕ) (bytes : List ℕ) (e : CborFault) → RefusesHead may left at bytes e → (e ≡ f.Truncated (at + length bytes)) ⊎ ((more : List ℕ) → RefusesHead may left at (bytes ++ more) e)
head_stays may left at [] e s = inl (s ∙ ap (λ (n : ℕ). f.Truncated n) (omega arith))
head_stays may left at (b ∷ bytes) e (inl s) = inr (λ more. inl s)
head_stays may left at (b ∷ bytes) e (inr (inl s)) = inr (λ more. inr (inl s))
head_stays may left at (b ∷ bytes) e (inr (inr s)) = elim (argument_stays _ at bytes e s.2) [
  | inl t ↦ inl (t ∙ ap (λ (n : ℕ). f.Truncated n) (omega arith))
  | inr t ↦ inr (λ more. inr (inr (s.0, s.1, t more)))
]

-- ---- what follows a head

flat_stays : (rest : Rest) (e : CborFault) → RefusesFlat rest e → EndsOrStays RefusesFlat rest e
flat_stays rest e (inl s) = inl (same_end rest s.1 1 (head_of 2 s.0) e s.2.1 s.4)
flat_stays rest e (inr (inl s)) = inl (same_end rest s.1 1 (head_of 3 s.0) e s.2.1 s.4)
flat_stays rest e (inr (inr s)) = inr (λ more. inr (inr (s.0, s.1, longer s.2 more, s.3, behind_longer rest s.2 1 s.1 more s.4, s.5, s.6)))

module _ (spells : Item → ℕ → List ℕ → Type 0) (Refuses : Rest → CborFault → Type 0) (stays : (rest : Rest) (e : CborFault) → Refuses rest e → EndsOrStays Refuses rest e) where
  each_stays : (n : ℕ) (rest : Rest) (e : CborFault) → RefusesEach Refuses spells n rest e → EndsOrStays (RefusesEach Refuses spells n) rest e
  each_stays n rest e s = elim (stays s.3 e s.7) [
    | inl t ↦ inl (same_end rest s.3 s.1 s.2 e s.6 t)
    | inr t ↦ inr (λ more. (s.0, s.1, s.2, longer s.3 more, s.4, s.5, behind_longer rest s.3 s.1 s.2 more s.6, t more))
  ]

  entry_stays : (entries : List (ℕ × Item)) (rest : Rest) (e : CborFault) → RefusesEntry Refuses entries rest e → EndsOrStays (RefusesEntry Refuses entries) rest e
  entry_stays entries rest e (inl s) = elim (head_stays is_key rest.left rest.at rest.bytes e s) [
    | inl t ↦ inl t
    | inr t ↦ inr (λ more. inl (t more))
  ]
  entry_stays entries rest e (inr s) = elim (s.3) [
    | inl r ↦ inr (λ more. inr (s.0, longer s.1 more, (s.2.0, behind_longer rest s.1 1 (head_of 0 s.0) more s.2.1), inl r))
    | inr r ↦ elim (stays s.1 e r.1) [
      | inl t ↦ inl (same_end rest s.1 1 (head_of 0 s.0) e s.2.1 t)
      | inr t ↦ inr (λ more. inr (s.0, longer s.1 more, (s.2.0, behind_longer rest s.1 1 (head_of 0 s.0) more s.2.1), inr (r.0, t more)))
    ]
  ]

  entries_stay : (n : ℕ) (rest : Rest) (e : CborFault) → RefusesEntries Refuses spells n rest e → EndsOrStays (RefusesEntries Refuses spells n) rest e
  entries_stay n rest e s = elim (entry_stays s.0 s.3 e s.8) [
    | inl t ↦ inl (same_end rest s.3 s.1 s.2 e s.7 t)
    | inr t ↦ inr (λ more. (s.0, s.1, s.2, longer s.3 more, s.4, s.5, s.6, behind_longer rest s.3 s.1 s.2 more s.7, t more))
  ]

  inside_stays : (rest : Rest) (e : CborFault) → RefusesInside Refuses spells rest e → EndsOrStays (RefusesInside Refuses spells) rest e
  inside_stays rest e s = elim (s.2) [
    | inl r ↦ elim (each_stays s.0 s.1 e r.1) [
      | inl t ↦ inl (same_end rest s.1 1 (head_of 4 s.0) e r.0.1 t)
      | inr t ↦ inr (λ more. (s.0, longer s.1 more, inl ((r.0.0, behind_longer rest s.1 1 (head_of 4 s.0) more r.0.1), t more)))
    ]
    | inr r ↦ elim (entries_stay s.0 s.1 e r.1) [
      | inl t ↦ inl (same_end rest s.1 1 (head_of 5 s.0) e r.0.1 t)
      | inr t ↦ inr (λ more. (s.0, longer s.1 more, inr ((r.0.0, behind_longer rest s.1 1 (head_of 5 s.0) more r.0.1), t more)))
    ]
  ]

-- a refusal of an item is the end of the input, or stays whatever follows
pub item_stays : (levels : ℕ) (rest : Rest) (e : CborFault) → RefusesItem levels rest e → EndsOrStays (RefusesItem levels) rest e
unfolding RefusesItem
item_stays zero rest e (inl s) = elim (head_stays (is_item 0) rest.left rest.at rest.bytes e s) [
  | inl t ↦ inl t
  | inr t ↦ inr (λ more. inl (t more))
]
item_stays zero rest e (inr s) = elim (flat_stays rest e s) [
  | inl t ↦ inl t
  | inr t ↦ inr (λ more. inr (t more))
]
item_stays (suc levels) rest e (inl s) = elim (head_stays (is_item (suc levels)) rest.left rest.at rest.bytes e s) [
  | inl t ↦ inl t
  | inr t ↦ inr (λ more. inl (t more))
]
item_stays (suc levels) rest e (inr (inl s)) = elim (flat_stays rest e s) [
  | inl t ↦ inl t
  | inr t ↦ inr (λ more. inr (inl (t more)))
]
item_stays (suc levels) rest e (inr (inr s)) = elim (inside_stays (Encodes levels) (RefusesItem levels) (item_stays levels) rest e s) [
  | inl t ↦ inl t
  | inr t ↦ inr (λ more. inr (inr (t more)))
]
