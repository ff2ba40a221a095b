-- After a token is added, and possibly a name, the names are still those of the tokens, in order of appearance.
use denote.Bor.{Bor}
use Rattle.std.proofs.Common.{◌≡◌, ℕ, suc, ◌<◌, Bool, true, false, List, [], ◌∷◌, ◌++◌, Some, slice_get, length, refl, sym, ap, subst, ◌∙◌, arith, length-append, if◌then◌else◌}
use Rattle.std.specs.List.{list_any, IsDistinct}
use Rattle.std.proofs.lemmas.Option.{slice_get_within}
use Rattle.indexmap.specs.IndexSet.{insert_key}
use Rattle.tl_syntax.specs.declared.token.Token.{Token}
use Rattle.tl_syntax.specs.declared.token.TokenKind.{TokenKind}
use Rattle.tl_syntax.specs.declared.token.TokenKind.TheVariants as K
use Rattle.tl_syntax.specs.Tokens as T
use Rattle.tl_syntax.specs.Tokens.{spellings, first_names, AreNumbered, AreNamesOf}
use Rattle.tl_syntax.proofs.NameLemmas.{same_name, spellings_pushed, symbol_is, distinct_spellings}
use Rattle.tl_syntax.proofs.NamesOnce.{is_name, known_other, numbered_more, numbered_new}

pub none_numbered : (tokens : List Token) (names : List (List ℕ)) → tokens ≡ [] → names ≡ first_names → AreNamesOf tokens names
none_numbered tokens names none first =
    subst (λ l. AreNumbered (length first_names) l (length names)) (sym none) (subst (λ n. AreNumbered (length first_names) [] n) (sym (ap length first)) T.no_tokens)

-- a token that is no name
pub pushed_other : (tokens tokens' : List Token) (names names' : List (Bor (List ℕ))) (kind : TokenKind) (offset : ℕ) → names' ≡ names →
    tokens' ≡ tokens ++ (record { kind = kind; offset = offset }) ∷ [] → is_name kind ≡ 0 → AreNamesOf tokens (spellings names) → AreNamesOf tokens' (spellings names')
pushed_other tokens tokens' names names' kind offset same pushed none before =
    let token : Token = record { kind = kind; offset = offset } in
    let after : AreNamesOf (tokens ++ token ∷ []) (spellings names) = numbered_more token before (known_other (length (spellings names)) kind none) in
    subst (λ l. AreNamesOf l (spellings names')) (sym pushed) (subst (λ l. AreNamesOf (tokens ++ token ∷ []) (spellings l)) (sym same) after)

get_at_end : (xs : List (List ℕ)) (x : List ℕ) → slice_get (xs ++ x ∷ []) (length xs) ≡ Some x
get_at_end [] x = refl
get_at_end (a ∷ xs) x = get_at_end xs x

-- a name
pub pushed_name : (tokens tokens' : List Token) (names names' names'' : List (Bor (List ℕ))) (word : Bor (List ℕ)) (index offset : ℕ) →
    names' ≡ insert_key same_name names word → ((k : Bor (List ℕ)) × (slice_get names' index ≡ Some k) × (same_name word k ≡ true)) → IsDistinct same_name names' →
    names'' ≡ names' → tokens' ≡ tokens ++ (record { kind = K.Name (record { 0 = index }); offset = offset }) ∷ [] → AreNamesOf tokens (spellings names) →
    AreNamesOf tokens' (spellings names'')
pushed_name tokens tokens' names names' names'' word index offset e stored distinct same pushed before =
    subst (λ l. AreNamesOf l (spellings names'')) (sym pushed) (subst (λ l. AreNamesOf (tokens ++ token ∷ []) (spellings l)) (sym same) (by (list_any (same_name word) names) e))
  where
    token : Token
    token = record { kind = K.Name (record { 0 = index }); offset = offset }

    here : slice_get (spellings names') index ≡ Some word.now
    here = symbol_is names' index stored.0 word.now stored.1 stored.2

    by : (there : Bool) → names' ≡ (if there then names else names ++ word ∷ []) → AreNamesOf (tokens ++ token ∷ []) (spellings names')
    by true f =
        let within : index < length (spellings names) = slice_get_within (spellings names) index word.now (subst (λ l. slice_get (spellings l) index ≡ Some word.now) f here) in
        subst (λ l. AreNamesOf (tokens ++ token ∷ []) (spellings l)) (sym f) (numbered_more token before within)
    by false f =
        let longer : spellings names' ≡ spellings names ++ word.now ∷ [] = ap spellings f ∙ spellings_pushed names word in
        let end : slice_get (spellings names') (length (spellings names)) ≡ Some word.now =
        subst (λ l. slice_get l (length (spellings names)) ≡ Some word.now) (sym longer) (get_at_end (spellings names) word.now) in
        let last : index ≡ length (spellings names) = distinct_spellings names' distinct index (length (spellings names)) word.now here end in
        let one_more : length (spellings names') ≡ suc (length (spellings names)) = ap length longer ∙ grind (arith, length-append) in
        subst (λ n. AreNumbered (length first_names) (tokens ++ token ∷ []) n) (sym one_more) (numbered_new token before (ap (λ n. K.Name (record { 0 = n })) last))
