-- The test of names decides their rule, and names that keep it have keys of their own.
use Rattle.std.proofs.Common.{◌≡◌, ℕ, ◌≤◌, leb, List, length, Decides, Equal, sym, refl, ap, ◌∙◌}
use Rattle.std.proofs.ByRecursion.{All-from_get_or, All-get_or, Decides-by_and}
use Rattle.std.proofs.lemmas.Bool.{le-leb, leb-true}
use Rattle.std.proofs.lemmas.Bool.Decides.{Decides-and, Decides-eqb, Decides-like, Decides-or}
use Rattle.kinds.proofs.Spelling.{name_of-once}
use Rattle.kinds.specs.Name.{IsName, IsNameByte}
use Rattle.kinds.specs.Packed.{name_of}
use Rattle.kinds.specs.declared.name.Name.{Name}
use Rattle.tree.proofs.Orders.{same_key}
use Rattle.tree.specs.Kind.{Kind}
use Rattle.register.specs.Rules.{all_name_bytes, is_name, is_name_byte}

decides-leb : (a b : ℕ) → Decides (leb a b) (a ≤ b)
decides-leb a b = (leb-true a b, le-leb a b)

byte-decided : (b : ℕ) → Decides (is_name_byte b) (IsNameByte b)
byte-decided b =
    Decides-or _ _ (Decides-and _ _ (decides-leb 65 b) (decides-leb b 90))
    (Decides-or _ _ (Decides-and _ _ (decides-leb 48 b) (decides-leb b 57)) (Decides-eqb b 45))

pub name-decided : (bytes : List ℕ) → Decides (is_name bytes) (IsName bytes)
name-decided bytes =
    let rule = Decides-by_and is_name_byte IsNameByte all_name_bytes byte-decided refl (λ b bs. refl) bytes in
    Decides-like (is_name bytes)
    (λ h. (h.0.0, h.0.1, λ place d l. All-get_or IsNameByte bytes place d l h.1))
    (λ h. ((h.0, h.1), All-from_get_or IsNameByte bytes 0 (λ place l. h.2 place 0 l)))
    (Decides-and _ _ (Decides-and _ _ (decides-leb 1 (length bytes)) (decides-leb (length bytes) 16)) rule)

module _ {K : Type 0} (𝓚 : Kind K) (named : Name → K) (called : K → Name) (name : K → Name) (back : (n : Name) → name (named n) ≡ n) where
  -- one key is one name
  pub key-once : (a b : List ℕ) → IsName a → IsName b → 𝓚.order (named (name_of a)) (named (name_of b)) ≡ Equal → a ≡ b
  key-once a b p q e =
      name_of-once a b p q (sym (back (name_of a)) ∙ ap name (same_key 𝓚 (named (name_of a)) (named (name_of b)) e) ∙ back (name_of b))
