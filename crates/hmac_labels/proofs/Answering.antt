-- What the labelling answers, from the texts and the search among them.
use Rattle.std.proofs.Common.{◌≡◌, ℕ, List, map, length, Option, Some, None, sym, ap, subst, ◌∙◌}
use Rattle.base_types.specs.Sets.{AllDiffer}
use Rattle.base_types.proofs.Lists.{AllDiffer-images, map-map}
use Rattle.digest_mac.specs.Labels.{hmac_digest, hmac_label, multibase_text}
use Rattle.digest_mac.specs.declared.hash.Hash.{Hash}
use Rattle.nquads.specs.declared.numbers.Label.{Label}
use Rattle.rdfc_ndegree.specs.Table.{numbers_below}
use Rattle.hmac_labels.specs.Clashes.{IsLeastClash}
use Rattle.hmac_labels.specs.Labels.{AreHmacLabels, AreOneToOne}
use Rattle.hmac_labels.specs.Internal.Relabelling.{relabelled}
use Rattle.hmac_labels.specs.Internal.Searching.{least_from}
use Rattle.hmac_labels.specs.declared.labelling.HmacLabels.{HmacLabels}
use Rattle.hmac_labels.proofs.Numbers.{length-map_numbers}
use Rattle.hmac_labels.proofs.Searching.{found_clash, all_differ}
use Rattle.hmac_labels.proofs.Relabelling.{relabelled-blanks, relabelled-texts}

-- the labels of digests by number are those of the numbers
digest-labels : (hash : Hash) (key numbers : List ℕ)
    → map multibase_text (map (hmac_digest hash key) numbers) ≡ map (hmac_label hash key) numbers
unfolding hmac_label
digest-labels hash key numbers = map-map multibase_text (hmac_digest hash key) numbers

-- Digests and texts stand by the numbers below a count.
pub record AreMade (hash : Hash) (key : List ℕ) (count : ℕ) (digests texts : List (List ℕ)) : Type 0 where
  pub digests_are : digests ≡ map (hmac_digest hash key) (numbers_below count)
  pub texts_are : texts ≡ map (hmac_label hash key) (numbers_below count)

-- as the code makes them
pub made : (hash : Hash) (key its_key : List ℕ) (count n : ℕ) (digests seen texts : List (List ℕ)) → its_key ≡ key → n ≡ count
    → digests ≡ map (hmac_digest hash its_key) (numbers_below n) → seen ≡ digests → texts ≡ map multibase_text seen
    → AreMade hash key count digests texts
made hash key its_key count n digests seen texts same_key same_count d s t =
    let by_number : digests ≡ map (hmac_digest hash key) (numbers_below count) =
    d ∙ ap (λ k. map (hmac_digest hash k) (numbers_below n)) same_key
    ∙ ap (λ m. map (hmac_digest hash key) (numbers_below m)) same_count in
    record {
      digests_are = by_number;
      texts_are = t ∙ ap (map multibase_text) (s ∙ by_number) ∙ digest-labels hash key (numbers_below count);
    }

module _ (hash : Hash) (key : List ℕ) (count : ℕ) (digests texts seen : List (List ℕ)) (answer : Option (ℕ × ℕ))
    (is : AreMade hash key count digests texts) (same : seen ≡ texts) (searches : answer ≡ least_from 0 seen) where
  -- a pair that is found is the least that clashes
  pub refused : (first second : ℕ) → answer ≡ Some (first, second) → IsLeastClash (hmac_label hash key) count first second
  refused first second found =
      found_clash (hmac_label hash key) count seen answer first second (same ∙ is.texts_are) searches found

  texts-differ : answer ≡ None → AllDiffer (map (hmac_label hash key) (numbers_below count))
  texts-differ none = all_differ (hmac_label hash key) count seen answer (same ∙ is.texts_are) searches none

-- as many texts as numbers
pub texts-long : (hash : Hash) (key : List ℕ) (count : ℕ) (digests texts seen : List (List ℕ))
    → AreMade hash key count digests texts → seen ≡ texts → length seen ≡ count
texts-long hash key count digests texts seen is same =
    ap length (same ∙ is.texts_are) ∙ length-map_numbers (hmac_label hash key) count

-- where no pair is found the labels are those of the numbers, one to one
pub answered : (hash : Hash) (key : List ℕ) (canonical labels : List Label) (digests texts seen again : List (List ℕ))
    (answer : Option (ℕ × ℕ)) → AreMade hash key (length canonical) digests texts → seen ≡ texts → again ≡ texts
    → answer ≡ least_from 0 seen → answer ≡ None → labels ≡ relabelled canonical again
    → AreHmacLabels hash key canonical (record { labels = labels; digests = digests })
    × AreOneToOne (record { labels = labels; digests = digests })
answered hash key canonical labels digests texts seen again answer is same too searches none given =
    let long = texts-long hash key (length canonical) digests texts again is too in
    let differ = texts-differ hash key (length canonical) digests texts seen answer is same searches none in
    let blanks = ap (map (λ (l : Label). l.blank)) given ∙ relabelled-blanks canonical again long in
    let by_number = ap (map (λ (l : Label). l.text)) given ∙ relabelled-texts canonical again long ∙ too ∙ is.texts_are in
    let of_digests = ap (map multibase_text) is.digests_are ∙ digest-labels hash key (numbers_below (length canonical)) in (
      record { blanks = blanks; texts = by_number; digests = is.digests_are },
      record {
        labels = subst AllDiffer (sym by_number) differ;
        digests = AllDiffer-images multibase_text digests (subst AllDiffer (sym of_digests) differ);
      },
    )
