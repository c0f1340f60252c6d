mod PuntLemmas
